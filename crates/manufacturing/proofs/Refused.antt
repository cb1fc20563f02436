-- Which refusals the block gives: 1 exactly where a byte of its table is missing, with the smallest such offset, and then 13 exactly where the
-- date is refused. Assumes nothing.
use Rattle.std.specs.Prelude.{Some, None, Err}
use Prim.Native.Nat.{ℕ}
use mathlib.Core.Path.{◌≡◌, refl, subst}
use mathlib.Core.Bool.{true}
use native.Mathlib.Omega.{arith}
use Rattle.reading.specs.View.{View}
use Rattle.reading.specs.declared.Refusal.TheVariants.{StrictDate, Truncated}
use Rattle.reading.specs.Refusal.{told}
use Rattle.reading.specs.declared.Refusal.{Refusal}
use Rattle.reading.specs.Ranges.{missing_at}
use Rattle.reading.proofs.Picked.{by-test}
use Rattle.reading.proofs.Reach.{by-missing}
use Rattle.reading.proofs.Refused.{OfRefused}
use Rattle.manufacturing.specs.Block.{manufacturing_ranges, date_refused, manufacturing_at}
use Rattle.manufacturing.specs.declared.DateMode.{DateMode}

module _ (mode : DateMode) (v : View) where
  -- a mode refuses the date of the image
  abbrev NoDate : Type 0
  NoDate = date_refused mode (v.byte 515) (v.byte 516) ≡ true

  -- what holds of the refusal of a missing byte, and of a date where no byte is missing, holds of every refusal
  pub manufacturing-refusals : (P : Refusal → Type 0) → ((i : ℕ) → missing_at manufacturing_ranges v ≡ Some i → P (Truncated i))
      → (missing_at manufacturing_ranges v ≡ None → NoDate → P (StrictDate)) → OfRefused P (manufacturing_at mode v)
  manufacturing-refusals P of-missing of-date = by-missing (missing_at manufacturing_ranges v)
      (λ e. by-test (date_refused mode (v.byte 515) (v.byte 516))
      (λ d. rw (e, d) (of-date e d))
      (λ d. rw (e, d) tt))
      (λ i e. rw e (of-missing i e))

  pub manufacturing-named : (i : ℕ) → missing_at manufacturing_ranges v ≡ Some i → manufacturing_at mode v ≡ Err (Truncated i)
  manufacturing-named i e = rw e refl

  pub date-named : missing_at manufacturing_ranges v ≡ None → NoDate → manufacturing_at mode v ≡ Err StrictDate
  date-named e d = rw (e, d) refl

  pub manufacturing-exactly : (t : Refusal) → manufacturing_at mode v ≡ Err t → (told t).number ≡ 1 → missing_at manufacturing_ranges v ≡ Some (told t).first
  manufacturing-exactly t e =
      subst (OfRefused (λ (u : Refusal). (told u).number ≡ 1 → missing_at manufacturing_ranges v ≡ Some (told u).first)) e
      (manufacturing-refusals (λ (u : Refusal). (told u).number ≡ 1 → missing_at manufacturing_ranges v ≡ Some (told u).first) (λ i m z. m) (λ m d z. absurd (omega arith)))

  pub date-exactly : (t : Refusal) → manufacturing_at mode v ≡ Err t → (told t).number ≡ 13 → NoDate
  date-exactly t e =
      subst (OfRefused (λ (u : Refusal). (told u).number ≡ 13 → NoDate)) e
      (manufacturing-refusals (λ (u : Refusal). (told u).number ≡ 13 → NoDate) (λ i m z. absurd (omega arith)) (λ m d z. d))
