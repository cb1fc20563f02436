-- Document 02's examples of 2026-02 and others, computed. Assumes nothing.
use Rattle.std.specs.Prelude.{Ok, Err}
use Prim.Native.Nat.{ℕ}
use mathlib.Core.Path.{◌≡◌, refl, ap}
use mathlib.Core.List.{List, [], ◌∷◌}
use lib.Dec.{ltb}
use lib.ListN.{length, get_or}
use Rattle.reading.specs.View.{View, view}
use Rattle.reading.specs.declared.Refusal.TheVariants.{StrictDate, Truncated}
use Rattle.reading.specs.Ranges.{missing_at}
use Rattle.reading.specs.Made.{Image, firsts}
use Rattle.reading.proofs.Made.{made}
use Rattle.manufacturing.specs.Block.{manufacturing_ranges, bcd_of, manufacturing_at, manufacturing_of}
use Rattle.manufacturing.specs.Part.{trimmed, field_at, part_at}
use Rattle.manufacturing.specs.declared.DateMode.{DateMode}
use Rattle.manufacturing.specs.declared.DateMode.TheVariants.{AsIs, Strict}
use Rattle.manufacturing.proofs.Refused.{manufacturing-named}

-- maker 04 EF, place 0, year 22, a week, serial 0104EEF6, a part number of 28 zeros, "A" and a space, DRAM maker 80 AD, stepping FF
unfoldable pub image : ℕ → Image
image week =
    record {
      size = 1024;
      nonzero = (512, 4) ∷ (513, 239) ∷ (515, 34) ∷ (516, week) ∷ (517, 1) ∷ (518, 4) ∷ (519, 238) ∷ (520, 246) ∷ (549, 65) ∷ (550, 32) ∷ (552, 128) ∷ (553, 173) ∷ (554, 255) ∷ [];
    }

-- the arithmetic goes on where a nibble is no digit
pub ff : bcd_of 0xFF ≡ 165
ff = refl

-- a space with a byte behind it stays, and so does one in front
pub inner-stays : trimmed (32 ∷ 65 ∷ 32 ∷ 66 ∷ 32 ∷ 32 ∷ []) ≡ 32 ∷ 65 ∷ 32 ∷ 66 ∷ []
unfolding trimmed
inner-stays = refl

-- thirty spaces, or any number of them, leave nothing; no other byte is trimmed, a zero byte neither
pub blank : trimmed (32 ∷ 32 ∷ []) ≡ []
unfolding trimmed
blank = refl

pub zero-stays : trimmed (65 ∷ 0 ∷ 32 ∷ []) ≡ 65 ∷ 0 ∷ []
unfolding trimmed
zero-stays = refl

pub decoded : manufacturing_at Strict (made (image 0x12)) ≡ Ok (record {
  module_manufacturer = record { bank = 5; code = 111 };
  manufacturing_location = 0;
  manufacturing_date = record { year = 2022; week = 12 };
  serial_number = record { 0 = 0x0104EEF6 };
  revision_code = 0;
  dram_manufacturer = record { bank = 1; code = 45 };
  dram_stepping = 255;
})
unfolding image missing_at
decoded = refl

-- the space that ends the part number goes, the zeros stay
pub length-part_at : length (part_at (made (image 0x12))) ≡ 29
unfolding image missing_at field_at firsts trimmed
length-part_at = refl

-- weeks 1 and 53 are dates; 0 and 54 are none, nor is a byte that is no digits
pub week-first : manufacturing_at Strict (made (image 0x01)) ≡ manufacturing_at AsIs (made (image 0x01))
unfolding image missing_at
week-first = refl

pub week-last : manufacturing_at Strict (made (image 0x53)) ≡ manufacturing_at AsIs (made (image 0x53))
unfolding image missing_at
week-last = refl

pub week-none : manufacturing_at Strict (made (image 0x00)) ≡ Err StrictDate
unfolding image missing_at
week-none = refl

pub week-late : manufacturing_at Strict (made (image 0x54)) ≡ Err StrictDate
unfolding image missing_at
week-late = refl

pub week-no-digit : manufacturing_at Strict (made (image 0x1A)) ≡ Err StrictDate
unfolding image missing_at
week-no-digit = refl

-- which byte is named goes by the image's length alone
module _ (mode : DateMode) (s : List ℕ) where
  abbrev sized : ℕ → View
  sized n = record { below = λ k. ltb n k; byte = λ i. get_or s i 0 }

  pub block-of-100 : length s ≡ 100 → manufacturing_of mode s ≡ Err (Truncated 512)
  unfolding manufacturing_of missing_at
  block-of-100 e = manufacturing-named mode (view s) 512 (ap (λ (n : ℕ). missing_at manufacturing_ranges (sized n)) e)

  pub block-of-530 : length s ≡ 530 → manufacturing_of mode s ≡ Err (Truncated 530)
  unfolding manufacturing_of missing_at
  block-of-530 e = manufacturing-named mode (view s) 530 (ap (λ (n : ℕ). missing_at manufacturing_ranges (sized n)) e)

  pub block-of-554 : length s ≡ 554 → manufacturing_of mode s ≡ Err (Truncated 554)
  unfolding manufacturing_of missing_at
  block-of-554 e = manufacturing-named mode (view s) 554 (ap (λ (n : ℕ). missing_at manufacturing_ranges (sized n)) e)
