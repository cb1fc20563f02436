-- The view of the first n bytes is the clipped view, so what asks for nothing past them answers alike. Assumes nothing.
use Prim.Native.Nat.{ℕ}
use mathlib.Core.Path.{◌≡◌, refl, ap, sym, ◌∙◌}
use mathlib.Core.List.{List}
use mathlib.Core.Bool.{Bool, true}
use native.Mathlib.Omega.{arith}
use lib.ListN.{length, get_or, take, length-take, get_or-eq_default}
use lib.Seq.{get_or-take}
use lib.Dec.{ltb, leb}
use borrow.Author.Tests.{lt-ltb, le-ltb, leb-true, leb-false, ltb-true, ltb-false}
use Rattle.reading.specs.Pick.{pick}
use Rattle.reading.specs.View.{View, view, clip, Within}

module _ (n : ℕ) (b : List ℕ) where
  byte_of : (i : ℕ) (t : Bool) → ltb i n ≡ t → get_or (take n b) i 0 ≡ pick t (get_or b i 0) 0
  byte_of i t e = grind (arith, length-take, get_or-take, get_or-eq_default, ltb-true, ltb-false)

  below_of : (k : ℕ) (t u : Bool) → leb k n ≡ t → ltb (length b) k ≡ u → ltb (length (take n b)) k ≡ pick t u true
  below_of k t u e f = grind (arith, length-take, lt-ltb, le-ltb, leb-true, leb-false, ltb-true, ltb-false)

  pub view-take : view (take n b) ≡ clip n (view b)
  view-take i =
      record { below = λ k. below_of k (leb k n) (ltb (length b) k) refl refl i; byte = λ k. byte_of k (ltb k n) refl i }

pub within : {X : Type 0} (d : View → X) (n : ℕ) → Within n d → (b : List ℕ) → d (view (take n b)) ≡ d (view b)
within d n w b = ap d (view-take n b) ∙ sym (w (view b))
