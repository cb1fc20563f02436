-- Images made from a few bytes, as the list of all their bytes. Assumes nothing.
use Rattle.std.specs.Prelude.{ℕ, zero, suc, List, [], ◌∷◌, eqb}
use Rattle.reading.specs.Pick.{pick}

-- how many bytes, and those that are not zero, each by its offset
pub record Image : Type 0 where
  pub size : ℕ
  pub nonzero : List (ℕ × ℕ)

-- zero but at the offsets told; of two values for an offset the first counts
abbrev pub sparse : List (ℕ × ℕ) → ℕ → ℕ
sparse [] i = 0
sparse ((k, x) ∷ l) i = pick (eqb i k) x (sparse l i)

-- the first n values of a function
unfoldable pub firsts : ℕ → (ℕ → ℕ) → List ℕ
firsts zero f = []
firsts (suc n) f = f 0 ∷ firsts n (λ i. f (suc i))

-- the image's bytes
abbrev pub bytes_of : Image → List ℕ
bytes_of image = firsts image.size (sparse image.nonzero)
