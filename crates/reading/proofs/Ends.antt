-- The first and the last so many of a list, which may overlap, are all of it. Assumes nothing.
use Rattle.std.proofs.Common.{◌≡◌, ℕ, ◌+◌, ◌≤◌, ◌++◌, List, length, take, drop, refl, sym, ap, ◌∙◌, arith}
use Rattle.std.proofs.lemmas.List.{take-append-le, take-append-drop, length-take-le, length-drop, length-append}
use Rattle.std.proofs.lemmas.Slice.{take-put_mid, drop-put_mid, drop-append-drop}
use borrow.Rule.Slice.PartMut.{put_mid}
use Rattle.reading.specs.Lent.{laid}

-- written over the front of k, first those in front and then those at the end
module _ {X : Type 0} (p k : List X) (w m : ℕ) (e : m + w ≡ length p) (h : m ≤ w) (r : length p ≤ length k) where
  ends : put_mid m w (take w p ++ drop w k) (drop m p) ≡ laid p k
  ends =
      let f : length (take w p) ≡ w = length-take-le w p (omega arith) in
      let b : length (drop m p) ≡ w = omega (arith, length-drop m p) in
      let long : m ≤ length (take w p ++ drop w k) = omega (arith, f, length-append (take w p) (drop w k)) in
      let fore : take m (take w p ++ drop w k) ≡ take m p =
      take-append-le m (take w p) (drop w k) (omega (arith, f))
      ∙ sym (take-append-le m (take w p) (drop w p) (omega (arith, f)))
      ∙ ap (take m) (take-append-drop w p) in
      let head = take-put_mid m w (take w p ++ drop w k) (drop m p) (length p) (omega (arith, b)) long in
      let tail = drop-put_mid m w (take w p ++ drop w k) (drop m p) (length p) (omega arith) long b in
      sym (take-append-drop (length p) (put_mid m w (take w p ++ drop w k) (drop m p)))
      ∙ rw (head, tail, fore, take-append-drop m p, drop-append-drop w k (take w p) (length p) (omega arith) f) refl

  pub both_ends : {front back : List X} (n : ℕ) → front ≡ take w p → back ≡ drop m p → n ≡ w → put_mid m n (front ++ drop w k) back ≡ laid p k
  both_ends n a b c = rw (a, b, c) ends
