-- Document 02's examples of 2026-01: which byte is named goes by the image's length alone. Assumes nothing.
use Rattle.std.specs.Prelude.{Some, Err}
use Prim.Native.Nat.{ℕ, suc, ◌<◌, ◌≤◌}
use mathlib.Core.Path.{◌≡◌, refl, ap}
use mathlib.Core.Bool.{true}
use mathlib.Core.List.{List}
use native.Mathlib.Omega.{arith}
use lib.Dec.{ltb}
use lib.ListN.{length, get_or}
use borrow.Author.Tests.{lt-ltb, le-ltb}
use Rattle.reading.specs.View.{View, view}
use Rattle.reading.specs.declared.Refusal.TheVariants.{Truncated}
use Rattle.reading.specs.Ranges.{reads, missing_at}
use Rattle.reading.proofs.Smallest.{in-range, missing-smallest, smallest-once}
use Rattle.decoders.specs.Identity.{identity_ranges, identity_of}
use Rattle.decoders.specs.Timing.{timing_ranges, timings_of}
use Rattle.decoders.proofs.Refused.{identity-named, timings-named}

module _ (s : List ℕ) where
  -- the view of an image of n bytes
  abbrev sized : ℕ → View
  sized n = record { below = λ k. ltb n k; byte = λ i. get_or s i 0 }

  pub identity-of-100 : length s ≡ 100 → identity_of s ≡ Err (Truncated 234)
  unfolding identity_of missing_at
  identity-of-100 e = identity-named (view s) 234 (ap (λ (n : ℕ). missing_at identity_ranges (sized n)) e)

  pub identity-of-5 : length s ≡ 5 → identity_of s ≡ Err (Truncated 5)
  unfolding identity_of missing_at
  identity-of-5 e = identity-named (view s) 5 (ap (λ (n : ℕ). missing_at identity_ranges (sized n)) e)

  pub timings-of-29 : length s ≡ 29 → timings_of s ≡ Err (Truncated 30)
  unfolding timings_of missing_at
  timings-of-29 e = timings-named (view s) 30 (ap (λ (n : ℕ). missing_at timing_ranges (sized n)) e)

  pub timings-of-none : length s ≡ 0 → timings_of s ≡ Err (Truncated 20)
  unfolding timings_of missing_at
  timings-of-none e = timings-named (view s) 20 (ap (λ (n : ℕ). missing_at timing_ranges (sized n)) e)

  -- from 48 bytes on the third range is what is missing
  third : (j : ℕ) → j < 70 → reads timing_ranges j ≡ true → j < 48
  third j l e = grind (arith, in-range)

  pub timings-of-48-to-70 : 48 ≤ length s → length s ≤ 70 → timings_of s ≡ Err (Truncated 70)
  unfolding timings_of
  timings-of-48-to-70 h k =
      timings-named (view s) 70
      (smallest-once (view s) (reads timing_ranges) (missing_at timing_ranges (view s)) (Some 70) (missing-smallest (view s) timing_ranges)
      (refl, lt-ltb (length s) 71 (omega arith), λ j l e. le-ltb (length s) (suc j) (omega (arith, third j l e))))
