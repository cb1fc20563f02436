-- `missing_at` is the smallest offset that is read and that the image lacks, for any list of ranges and any view, and no other answer is.
-- Assumes nothing.
use Rattle.std.specs.Prelude.{Option, Some, None}
use Prim.Native.Nat.{ℕ, zero, suc, ◌+◌, ◌<◌, ◌≤◌}
use mathlib.Core.Path.{◌≡◌, refl, sym}
use mathlib.Core.List.{List, [], ◌∷◌}
use mathlib.Core.Bool.{Bool, true, false, true≢false}
use native.Mathlib.Omega.{arith}
use lib.Dec.{leb, ltb}
use borrow.Author.Tests.{le-leb, lt-ltb, leb-true, ltb-true}
use Rattle.reading.specs.Pick.{pick}
use Rattle.reading.specs.View.{View}
use Rattle.reading.specs.Ranges.{in_range, reads, first_lacking, smaller, missing_at}
use Rattle.reading.proofs.Picked.{both}

-- what an answer says of the offsets that are read: it is one of them, the image lacks it, and no smaller one is so; or none is so
abbrev pub Smallest : (ℕ → Bool) → View → Option ℕ → Type 0
Smallest read v None = (j : ℕ) → read j ≡ true → v.below (suc j) ≡ false
Smallest read v (Some i) = (read i ≡ true) × (v.below (suc i) ≡ true) × ((j : ℕ) → j < i → read j ≡ true → v.below (suc j) ≡ false)

-- one of two tests holds
pub first-or : {P : Type 0} (a b : Bool) → pick a true b ≡ true → (a ≡ true → P) → (b ≡ true → P) → P
first-or a b e f g = grind arith

pub or-second : (a b : Bool) → b ≡ true → pick a true b ≡ true
or-second a b e = grind arith

-- an offset lies in a range
module _ (start n j : ℕ) where
  pub in-range : in_range start n j ≡ true → (start ≤ j) × (j < start + n)
  in-range e = let h = both (leb start j) (ltb j (start + n)) e in (leb-true start j h.0, ltb-true j (start + n) h.1)

  pub range-in : start ≤ j → j < start + n → in_range start n j ≡ true
  range-in h k = rw (le-leb start j h, lt-ltb j (start + n) k) refl

module _ (v : View) where
  -- a range whose first byte is there
  module _ (n i : ℕ) (has : v.below (suc i) ≡ false) where
    but_first : (j : ℕ) → in_range i (suc n) j ≡ true → (in_range (suc i) n j ≡ true → v.below (suc j) ≡ false) → v.below (suc j) ≡ false
    but_first j e k = grind (arith, in-range, range-in)

    later : (m : Option ℕ) → Smallest (in_range (suc i) n) v m → Smallest (in_range i (suc n)) v m
    later m h = grind (arith, but_first, in-range, range-in)

  first-smallest : (n i : ℕ) → Smallest (in_range i n) v (first_lacking v i n)
  first-smallest zero i = grind (arith, in-range)
  first-smallest (suc n) i = grind (arith, in-range, range-in, later, first-smallest n (suc i))

  module _ (r q : ℕ → Bool) where
    smaller-smallest : (a b : Option ℕ) → Smallest r v a → Smallest q v b → Smallest (λ j. pick (r j) true (q j)) v (smaller a b)
    smaller-smallest a b h k = grind arith

  pub missing-smallest : (ranges : List (ℕ × ℕ)) → Smallest (reads ranges) v (missing_at ranges v)
  unfolding missing_at
  missing-smallest [] = λ j e. absurd (true≢false (sym e))
  missing-smallest ((start, n) ∷ ranges) =
      smaller-smallest (in_range start n) (reads ranges) (first_lacking v start n) (missing_at ranges v) (first-smallest n start) (missing-smallest ranges)

  -- no second answer is right
  module _ (read : ℕ → Bool) where
    pub smallest-once : (a b : Option ℕ) → Smallest read v a → Smallest read v b → a ≡ b
    smallest-once a b h k = grind arith
