-- The check is refused 1 exactly where a byte of its range is missing, with the smallest such offset; it has no other refusal. Else it answers
-- for the first 510 bytes and the two behind them. Assumes nothing.
use Rattle.std.specs.Prelude.{Some, Ok, Err}
use Prim.Native.Nat.{ℕ, ◌+◌, ◌*◌, ◌<◌, ◌≤◌}
use mathlib.Core.Path.{◌≡◌, refl, ap, subst, ◌∙◌}
use mathlib.Core.List.{List}
use lib.Dec.{eqb}
use lib.ListN.{length, get_or, take}
use native.Mathlib.Nat.{mul_comm}
use native.Mathlib.Omega.{arith}
use Rattle.reading.specs.View.{View, view}
use Rattle.reading.specs.declared.Refusal.TheVariants.{Truncated}
use Rattle.reading.specs.Refusal.{told}
use Rattle.reading.specs.declared.Refusal.{Refusal}
use Rattle.reading.specs.Ranges.{missing_at, truncated_by}
use Rattle.reading.proofs.Made.{front-is}
use Rattle.reading.proofs.Reach.{by-missing, none-missing, cut}
use Rattle.reading.proofs.Refused.{OfRefused}
use Rattle.crc.specs.Crc.{crc_of}
use Rattle.crc.specs.Base.{crc_ranges, covered_at, base_crc_at, base_crc_of}

module _ (v : View) where
  -- what holds of the refusal of a missing byte holds of every refusal
  pub crc-refusals : (P : Refusal → Type 0) → ((i : ℕ) → missing_at crc_ranges v ≡ Some i → P (Truncated i)) → OfRefused P (base_crc_at v)
  crc-refusals P of-missing = by-missing (missing_at crc_ranges v) (λ e. rw e tt) (λ i e. rw e (of-missing i e))

  pub crc-named : (i : ℕ) → missing_at crc_ranges v ≡ Some i → base_crc_at v ≡ Err (Truncated i)
  crc-named i e = rw e refl

  pub crc-exactly : (t : Refusal) → base_crc_at v ≡ Err t → missing_at crc_ranges v ≡ Some (told t).first
  crc-exactly t e = subst (OfRefused (λ (u : Refusal). missing_at crc_ranges v ≡ Some (told u).first)) e (crc-refusals (λ (u : Refusal). missing_at crc_ranges v ≡ Some (told u).first) (λ i m. m))

-- of an image that is long enough: yes or no, and which
pub crc-is : (s : List ℕ) → 512 ≤ length s → base_crc_of s ≡ Ok (eqb (crc_of (take 510 s)) (get_or s 510 0 + 256 * get_or s 511 0))
unfolding base_crc_of covered_at
crc-is s h = rw (none-missing crc_ranges s h, front-is 510 s (omega arith)) refl

-- the same with the stored CRC as std's word has it, and the answer for an image that is not: refusal 1 with the byte that it lacks
pub crc_long : (s : List ℕ) → 512 ≤ length s → base_crc_of s ≡ Ok (eqb (crc_of (take 510 s)) (get_or s 510 0 + get_or s 511 0 * 256))
crc_long s h = crc-is s h ∙ ap (λ (x : ℕ). Ok (eqb (crc_of (take 510 s)) (get_or s 510 0 + x))) (mul_comm 256 (get_or s 511 0))

pub crc_short : (s : List ℕ) → length s < 512 → base_crc_of s ≡ Err (truncated_by (missing_at crc_ranges (view s)))
unfolding base_crc_of
crc_short s h = cut crc_ranges s Err _ h
