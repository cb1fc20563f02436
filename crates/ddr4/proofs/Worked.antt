-- Document 02's example of 2026-07 and others, computed. Assumes nothing.
use Rattle.std.specs.Prelude.{Ok, Err}
use Prim.Native.Nat.{ℕ}
use mathlib.Core.Path.{◌≡◌, refl, ap}
use mathlib.Core.List.{List, [], ◌∷◌}
use lib.IntN.{pos, negsuc}
use lib.Dec.{ltb}
use lib.ListN.{length, get_or}
use Rattle.reading.specs.View.{View, view}
use Rattle.reading.specs.declared.Refusal.TheVariants.{NegativeTime, NotDdr5, Truncated, UnknownEnum}
use Rattle.reading.specs.Ranges.{missing_at}
use Rattle.reading.specs.Made.{Image}
use Rattle.reading.proofs.Made.{made}
use Rattle.ddr4.specs.Times.{fine_of, time_of}
use Rattle.ddr4.specs.Module.{ddr4_ranges, ddr4_at, ddr4_of}
use Rattle.ddr4.proofs.Refused.{ddr4-named}

-- units 7 with 0xD6 make 833
pub of-833 : time_of 7 0xD6 ≡ pos 833
of-833 = refl

-- the ends of a fine byte; -128 is the number behind 127 more below zero
pub fine-most : fine_of 0x7F ≡ pos 127
fine-most = refl

pub fine-least : fine_of 0x80 ≡ negsuc 127
fine-least = refl

-- 1 ps below zero, and zero
pub below-zero : time_of 0 0xFF ≡ negsuc 0
below-zero = refl

pub zero-time : time_of 0 0 ≡ pos 0
zero-time = refl

-- 126 bytes, all 0 but these
abbrev image : List (ℕ × ℕ) → Image
image nonzero = record { size = 126; nonzero = nonzero }

-- DDR4-2400, 8 Gb, 8 bits wide on a bus of 64: tCK 833, tAA, tRCD and tRP 13750, tRAS 32000 and tRC 45750
unfoldable pub module2400 : List (ℕ × ℕ)
module2400 =
    (2, 0x0C) ∷ (4, 0x85) ∷ (12, 0x01) ∷ (13, 0x03) ∷ (18, 7) ∷ (24, 110) ∷ (25, 110) ∷ (26, 110) ∷ (27, 0x11) ∷ (28, 0) ∷ (29, 110)
    ∷ (125, 0xD6) ∷ []

pub decoded : ddr4_at (made (image module2400)) ≡ Ok (record {
  megabits = 8192;
  io_width_bits = 8;
  bus_width_bits = 64;
  tck = 833;
  taa = 13750;
  trcd = 13750;
  trp = 13750;
  tras = 32000;
  trc = 45750;
})
unfolding module2400 missing_at
decoded = refl

-- the two halves of byte 27 are two high parts: 2 for tRC and 1 for tRAS
pub halves : ddr4_at (made (image ((27, 0x21) ∷ module2400))) ≡ Ok (record {
  megabits = 8192;
  io_width_bits = 8;
  bus_width_bits = 64;
  tck = 833;
  taa = 13750;
  trcd = 13750;
  trp = 13750;
  tras = 32000;
  trc = 77750;
})
unfolding module2400 missing_at
halves = refl

-- each refusal in its turn, with all that follow it wrong as well
pub no-ddr4 : ddr4_at (made (image ((2, 0x12) ∷ (17, 1) ∷ (4, 8) ∷ (12, 4) ∷ (13, 4) ∷ []))) ≡ Err (NotDdr5 18)
unfolding missing_at
no-ddr4 = refl

pub timebase-first : ddr4_at (made (image ((2, 0x0C) ∷ (17, 1) ∷ (4, 8) ∷ (12, 4) ∷ (13, 4) ∷ []))) ≡ Err (UnknownEnum 21 1)
unfolding missing_at
timebase-first = refl

pub density-next : ddr4_at (made (image ((2, 0x0C) ∷ (4, 8) ∷ (12, 4) ∷ (13, 4) ∷ (125, 0xFF) ∷ []))) ≡ Err (UnknownEnum 22 8)
unfolding missing_at
density-next = refl

pub io-next : ddr4_at (made (image ((2, 0x0C) ∷ (12, 4) ∷ (13, 7) ∷ (125, 0xFF) ∷ []))) ≡ Err (UnknownEnum 23 4)
unfolding missing_at
io-next = refl

pub bus-next : ddr4_at (made (image ((2, 0x0C) ∷ (13, 7) ∷ (125, 0xFF) ∷ []))) ≡ Err (UnknownEnum 24 7)
unfolding missing_at
bus-next = refl

pub tck-below : ddr4_at (made (image ((2, 0x0C) ∷ (125, 0xFF) ∷ (123, 0xFF) ∷ []))) ≡ Err (NegativeTime 1)
unfolding missing_at
tck-below = refl

pub trc-below : ddr4_at (made (image ((2, 0x0C) ∷ (120, 0x80) ∷ []))) ≡ Err (NegativeTime 5)
unfolding missing_at
trc-below = refl

-- which byte is named goes by the image's length alone
module _ (s : List ℕ) where
  abbrev sized : ℕ → View
  sized n = record { below = λ k. ltb n k; byte = λ i. get_or s i 0 }

  pub image-of-0 : length s ≡ 0 → ddr4_of s ≡ Err (Truncated 2)
  unfolding ddr4_of missing_at
  image-of-0 e = ddr4-named (view s) 2 (ap (λ (n : ℕ). missing_at ddr4_ranges (sized n)) e)

  pub image-of-30 : length s ≡ 30 → ddr4_of s ≡ Err (Truncated 120)
  unfolding ddr4_of missing_at
  image-of-30 e = ddr4-named (view s) 120 (ap (λ (n : ℕ). missing_at ddr4_ranges (sized n)) e)

  pub image-of-124 : length s ≡ 124 → ddr4_of s ≡ Err (Truncated 125)
  unfolding ddr4_of missing_at
  image-of-124 e = ddr4-named (view s) 125 (ap (λ (n : ℕ). missing_at ddr4_ranges (sized n)) e)

  pub image-of-125 : length s ≡ 125 → ddr4_of s ≡ Err (Truncated 125)
  unfolding ddr4_of missing_at
  image-of-125 e = ddr4-named (view s) 125 (ap (λ (n : ℕ). missing_at ddr4_ranges (sized n)) e)
