-- What the rules on a record find of a decoder's answer. Only private functions promise in these terms. Assumes nothing.
use Rattle.std.specs.Prelude.{List, [], Option, Ok, Err}
use Rattle.reading.specs.Refusal.{Answer}
use Rattle.findings.specs.declared.Finding.{Finding}
use Rattle.findings.specs.Hold.{cat}
use Rattle.rules.specs.Rules.{each}

-- all that they say of the record, and nothing where it was refused
abbrev pub of_answer : {A : Type 0} → List (A → Option Finding) → Answer A → List Finding
of_answer rules (Ok a) = cat (each rules a)
of_answer rules (Err why) = []
