-- Numbers held one behind the other: for each number, for each finding, and for an array that holds a list. Assumes nothing.
use Rattle.std.specs.Prelude.{fold}
use Prim.Native.Nat.{ℕ}
use mathlib.Core.Path.{◌≡◌, refl}
use mathlib.Core.List.{List, [], ◌∷◌, ◌++◌}
use Rattle.reading.specs.View.{View}
use Rattle.findings.specs.Hold.{holding}
use Rattle.findings.proofs.Laws.{list_held}
use Rattle.findings.specs.declared.Finding.{Finding}
use Rattle.replay.specs.declared.Cursor.{Cursor}
use Rattle.replay.specs.declared.Comparison.{Comparison}
use Rattle.replay.specs.Held.{held, held_all, compared}
use Rattle.replay.specs.Answers.{finding_record, row_numbers, list_numbers, found_numbers}

held-append : (v : View) (c : Cursor) (ms ns : List ℕ) → held_all v c (ms ++ ns) ≡ held_all v (held_all v c ms) ns
held-append v c [] ns = refl
held-append v c (m ∷ ms) ns = held-append v (held v c m) ms ns

pub one_by_one : (c : Comparison) (ns : List ℕ) → fold (λ so_far n. compared so_far (n ∷ [])) c ns ≡ compared c ns
one_by_one c [] = refl
one_by_one c (n ∷ ns) = one_by_one (compared c (n ∷ [])) ns

pub row_by_row : (c : Comparison) (fs : List Finding) → fold (λ so_far f. compared so_far (finding_record f)) c fs ≡ compared c (row_numbers fs)
row_by_row c [] = refl
row_by_row c (f ∷ fs) = rw (row_by_row (compared c (finding_record f)) fs, held-append)

-- an array that holds a list has the list's numbers
pub numbers_held : (l : List Finding) → found_numbers (holding l) ≡ list_numbers l
unfolding holding
numbers_held l = rw list_held
