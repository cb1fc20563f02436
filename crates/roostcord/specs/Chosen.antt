-- A call that is given an edition by its number: refusal 14 before all others, and then what was lent is as it was. Assumes nothing.
use Rattle.std.specs.Prelude.{ℕ, List, Err}
use Rattle.reading.specs.Refusal.{Answer, onward}
use Rattle.rules.specs.declared.Edition.{Edition}
use Rattle.rules.specs.Lint.{edition_of}
use Rattle.report.specs.Write.{lint_report_of, lint_report_after}

-- the answer, and what was lent afterwards
abbrev pub chosen : {A : Type 0} → (number : ℕ) → (Edition → Answer A) → Answer A
chosen n answer = onward Err (edition_of n) answer

abbrev pub chosen_after : {A : Type 0} → (number : ℕ) → A → (Edition → A) → A
chosen_after n lent after = onward (λ t. lent) (edition_of n) after

unfoldable pub lint_in : (number : ℕ) → List ℕ → (room : ℕ) → Answer ℕ
lint_in n s room = chosen n (λ e. lint_report_of e s room)

unfoldable pub lint_after : (number : ℕ) → List ℕ → List ℕ → List ℕ
lint_after n s out = chosen_after n out (λ e. lint_report_after e s out)
