-- No second answer fits the promise: two answers that say the same, in document 01's words, are the same. Assumes nothing.
use Rattle.std.proofs.Common.{◌≡◌}
use Rattle.reading.proofs.Once.{worded, answer-once}
use Rattle.ddr4rules.specs.declared.Ddr4Linted.{Ddr4Linted}

pub lint-once : (a b : Ddr4Linted) → worded a.ddr4 ≡ worded b.ddr4 → a.findings ≡ b.findings → a ≡ b
lint-once a b d f k = record { ddr4 = answer-once a.ddr4 b.ddr4 d k; findings = f k }
