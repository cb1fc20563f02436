-- Document 02's example of 2026-03 and others, computed. Assumes nothing.
use Rattle.std.specs.Prelude.{Err}
use Prim.Native.Nat.{ℕ, zero, suc}
use mathlib.Core.Path.{◌≡◌, refl, ap, ◌∙◌}
use mathlib.Core.List.{List, [], ◌∷◌, ◌++◌}
use lib.Dec.{ltb}
use lib.ListN.{length, get_or, replicate}
use Rattle.reading.specs.View.{View, view}
use Rattle.reading.specs.declared.Refusal.TheVariants.{Truncated}
use Rattle.reading.specs.Ranges.{missing_at}
use Rattle.crc.specs.Crc.{shifted, byte_in, crc_from, crc_of}
use Rattle.crc.specs.Base.{crc_ranges, base_crc_of}
use Rattle.crc.proofs.Refused.{crc-named}

-- the ASCII digits 1 to 9
pub digits : crc_of (0x31 ∷ 0x32 ∷ 0x33 ∷ 0x34 ∷ 0x35 ∷ 0x36 ∷ 0x37 ∷ 0x38 ∷ 0x39 ∷ []) ≡ 0x31C3
unfolding byte_in shifted
digits = refl

entered : byte_in 0 0 ≡ 0
unfolding byte_in shifted
entered = refl

-- what the CRC cannot see, since it starts with 0: how many zero bytes stand in front. So an image of zeros fits.
pub leading_zeros : (n : ℕ) (s : List ℕ) → crc_of (replicate n 0 ++ s) ≡ crc_of s
leading_zeros zero s = refl
leading_zeros (suc n) s = ap (λ (r : ℕ). crc_from r (replicate n 0 ++ s)) entered ∙ leading_zeros n s

-- which byte is named goes by the image's length alone
module _ (s : List ℕ) where
  abbrev sized : ℕ → View
  sized n = record { below = λ k. ltb n k; byte = λ i. get_or s i 0 }

  pub crc-of-100 : length s ≡ 100 → base_crc_of s ≡ Err (Truncated 100)
  unfolding base_crc_of missing_at
  crc-of-100 e = crc-named (view s) 100 (ap (λ (n : ℕ). missing_at crc_ranges (sized n)) e)

  pub crc-of-511 : length s ≡ 511 → base_crc_of s ≡ Err (Truncated 511)
  unfolding base_crc_of missing_at
  crc-of-511 e = crc-named (view s) 511 (ap (λ (n : ℕ). missing_at crc_ranges (sized n)) e)
