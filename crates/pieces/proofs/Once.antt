-- No second answer fits `feed` and `fresh`: of two with the same state, whose answers say the same, there is one alone. Assumes nothing.
use mathlib.Core.Path.{◌≡◌}
use Rattle.reading.proofs.Once.{worded, answer-once}
use Rattle.pieces.specs.declared.Fed.{Fed}

pub fed-once : (a b : Fed) → a.state ≡ b.state → worded a.answer ≡ worded b.answer → a ≡ b
fed-once a b s e i = record { state = s i; answer = answer-once a.answer b.answer e i }
