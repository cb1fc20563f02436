-- The view of an image made from a few bytes, which computes without walking the list of all its bytes. Assumes nothing.
use Prim.Native.Nat.{ℕ, zero, suc, ◌≤◌}
use mathlib.Core.Path.{◌≡◌, refl, ap}
use mathlib.Core.List.{List, [], ◌∷◌}
use native.Mathlib.Omega.{arith}
use lib.ListN.{length, get_or, take}
use lib.Dec.{ltb, leb-suc-suc, leb-suc-zero}
use Rattle.reading.specs.Pick.{pick}
use Rattle.reading.specs.View.{View, view}
use Rattle.reading.specs.Made.{Image, sparse, firsts, bytes_of}

abbrev pub made : Image → View
made image = record { below = λ n. ltb image.size n; byte = λ i. pick (ltb i image.size) (sparse image.nonzero i) 0 }

pub length-firsts : (n : ℕ) (f : ℕ → ℕ) → length (firsts n f) ≡ n
unfolding firsts
length-firsts zero f = refl
length-firsts (suc n) f = ap suc (length-firsts n (λ i. f (suc i)))

pub get_or-firsts : (n : ℕ) (f : ℕ → ℕ) (i : ℕ) → get_or (firsts n f) i 0 ≡ pick (ltb i n) (f i) 0
unfolding firsts
get_or-firsts zero f i = grind (arith, leb-suc-zero)
get_or-firsts (suc n) f zero = grind arith
get_or-firsts (suc n) f (suc i) = grind (arith, leb-suc-suc, get_or-firsts n)

-- as many bytes of the front of a list as it has
pub front-is : (n : ℕ) (s : List ℕ) → n ≤ length s → take n s ≡ firsts n (λ i. get_or s i 0)
unfolding firsts
front-is zero s h = refl
front-is (suc n) [] h = absurd (omega arith)
front-is (suc n) (x ∷ s) h = ap (λ (l : List ℕ). x ∷ l) (front-is n s (omega arith))

pub view_made : (image : Image) → view (bytes_of image) ≡ made image
view_made image i =
    record {
      below = λ n. ltb (length-firsts image.size (sparse image.nonzero) i) n;
      byte = λ k. get_or-firsts image.size (sparse image.nonzero) k i;
    }
