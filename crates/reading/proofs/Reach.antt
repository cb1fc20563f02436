-- How many bytes follows from the ranges: an image lacks none exactly where it has `reach_of` of them, and what asks for nothing but the
-- bytes in the ranges asks for nothing past those. For any list of ranges. Assumes nothing.
use Rattle.std.specs.Prelude.{Option, Some, None}
use Prim.Native.Nat.{ℕ, zero, suc, ◌-◌, ◌<◌, ◌≤◌}
use mathlib.Core.Path.{◌≡◌, refl, sym, ap, ◌∙◌}
use mathlib.Core.List.{List, [], ◌∷◌}
use mathlib.Core.Bool.{Bool, true, false}
use native.Mathlib.Omega.{arith}
use lib.Dec.{leb, ltb}
use lib.ListN.{length}
use borrow.Author.Tests.{le-leb, lt-ltb, le-ltb, ltb-false}
use Rattle.reading.specs.Pick.{pick}
use Rattle.reading.specs.View.{View, view, clip, Within}
use Rattle.reading.specs.declared.Refusal.{Refusal}
use Rattle.reading.specs.Ranges.{reads, missing_at, truncated_by, whole, reach_of, mask, Only}
use Rattle.reading.proofs.Smallest.{in-range, range-in, or-second, missing-smallest, smallest-once}

-- what is read lies before the reach, and the last byte before it is read
pub reads_before : (ranges : List (ℕ × ℕ)) (i : ℕ) → reads ranges i ≡ true → i < reach_of ranges
reads_before [] i e = grind arith
reads_before ((start, zero) ∷ ranges) i e = grind (arith, in-range, reads_before ranges)
reads_before ((start, suc n) ∷ ranges) i e = grind (arith, in-range, reads_before ranges)

last-read : (ranges : List (ℕ × ℕ)) (i : ℕ) → reach_of ranges ≡ suc i → reads ranges i ≡ true
last-read [] i e = grind arith
last-read ((start, zero) ∷ ranges) i e = grind (arith, last-read ranges, or-second)
last-read ((start, suc n) ∷ ranges) i e = grind (arith, last-read ranges, or-second, range-in)

-- an answer has two cases
pub by-missing {ℓ} : {P : Type ℓ} (m : Option ℕ) → (m ≡ None → P) → ((i : ℕ) → m ≡ Some i → P) → P
by-missing None f g = f refl
by-missing (Some i) f g = g i refl

-- an image lacks none exactly where it is long enough
module _ (ranges : List (ℕ × ℕ)) (s : List ℕ) where
  pub none-missing : reach_of ranges ≤ length s → missing_at ranges (view s) ≡ None
  none-missing h =
      smallest-once (view s) (reads ranges) (missing_at ranges (view s)) None (missing-smallest (view s) ranges)
      (λ j e. le-ltb (length s) (suc j) (omega (arith, reads_before ranges j e)))

  at-end : missing_at ranges (view s) ≡ None → (n : ℕ) → reach_of ranges ≡ n → n ≤ length s
  at-end e zero f = omega arith
  at-end e (suc i) f = ltb-false (length s) (suc i) ((rw e at (missing-smallest (view s) ranges)) i (last-read ranges i f))

  pub long-enough : missing_at ranges (view s) ≡ None → reach_of ranges ≤ length s
  long-enough e = at-end e (reach_of ranges) refl

  -- and one that is shorter is refused with the offset that it lacks
  pub cut : {X : Type 0} (stop : Refusal → X) (go : X) → length s < reach_of ranges → whole stop (missing_at ranges (view s)) go ≡ stop (truncated_by (missing_at ranges (view s)))
  cut stop go h = grind (arith, long-enough)

  -- and one that is not goes on
  pub enough : {X : Type 0} (stop : Refusal → X) (go : X) → reach_of ranges ≤ length s → whole stop (missing_at ranges (view s)) go ≡ go
  enough stop go h = rw (none-missing h)

pub ruleset by_length = (cut, enough)

-- the offset that is named is one that is read
pub named-before : (ranges : List (ℕ × ℕ)) (v : View) (i : ℕ) → missing_at ranges v ≡ Some i → i < reach_of ranges
named-before ranges v i e = reads_before ranges i (rw e at (missing-smallest v ranges)).0

-- what asks for nothing but the bytes in the ranges
module _ (ranges : List (ℕ × ℕ)) (v : View) where
  below-read : (k : ℕ) (t : Bool) → pick (reads ranges (k - 1)) (pick (leb k (reach_of ranges)) t true) false ≡ pick (reads ranges (k - 1)) t false
  below-read k t = grind (arith, reads_before, le-leb)

  byte-read : (i x : ℕ) → pick (reads ranges i) (pick (ltb i (reach_of ranges)) x 0) 0 ≡ pick (reads ranges i) x 0
  byte-read i x = grind (arith, reads_before, lt-ltb)

  mask-clip : mask ranges (clip (reach_of ranges) v) ≡ mask ranges v
  mask-clip i = record { below = λ k. below-read k (v.below k) i; byte = λ k. byte-read k (v.byte k) i }

pub only-within : {X : Type 0} {d : View → X} (ranges : List (ℕ × ℕ)) → Only ranges d → Within (reach_of ranges) d
only-within {d = d} ranges o v = o v ∙ sym (o (clip (reach_of ranges) v) ∙ ap d (mask-clip ranges v))
