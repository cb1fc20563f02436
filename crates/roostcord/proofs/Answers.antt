-- A question to a state: what is asked of an image, as one thing. Assumes nothing.
use Prim.Native.Nat.{ℕ}
use mathlib.Core.List.{List}
use lib.ListN.{length}
use Rattle.reading.specs.Refusal.{Answer}
use Rattle.rules.specs.declared.Edition.{Edition}
use Rattle.report.specs.Write.{lint_report_of, lint_report_after}
use Rattle.roostcord.specs.Numbers.{listed_in, list_after}

-- a question to an image: its answer, and what it leaves of what was lent
pub record Question : Type 0 where
  pub answer : List ℕ → Answer ℕ
  pub after : List ℕ → List ℕ

abbrev pub listing : (need : ℕ) → (List ℕ → Answer (List ℕ)) → List ℕ → Question
listing need numbers out = record { answer = λ s. listed_in need (numbers s) (length out); after = λ s. list_after need (numbers s) out }

abbrev pub reporting : Edition → List ℕ → Question
reporting e out = record { answer = λ s. lint_report_of e s (length out); after = λ s. lint_report_after e s out }
