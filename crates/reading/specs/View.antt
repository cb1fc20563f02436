-- An image as what a definition may ask of it: whether it is shorter than a number, and the byte at an offset. It tells no length, so a
-- definition that asks for nothing past its first n bytes, or for certain offsets alone, is seen to do so by computation. Assumes nothing.
use Rattle.std.specs.Prelude.{ℕ, ◌≡◌, List, Bool, true, length, get_or, leb, ltb}
use Rattle.reading.specs.Pick.{pick}

pub record View : Type 0 where
  -- the image has fewer bytes than that
  pub below : ℕ → Bool
  -- the byte at an offset, and 0 past the end
  pub byte : ℕ → ℕ

abbrev pub view : List ℕ → View
view s = record { below = λ n. ltb (length s) n; byte = λ i. get_or s i 0 }

-- the view of the first n bytes alone
abbrev pub clip : ℕ → View → View
clip n v = record { below = λ k. pick (leb k n) (v.below k) true; byte = λ i. pick (ltb i n) (v.byte i) 0 }

-- d asks for nothing past the first n bytes
abbrev pub Within : {X : Type 0} → ℕ → (View → X) → Type 0
Within n d = (v : View) → d v ≡ d (clip n v)
