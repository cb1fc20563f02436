-- What one more write makes of a lent list. Assumes nothing.
use Prim.Native.Nat.{ℕ, suc, ◌+◌, ◌-◌, ◌<◌, ◌≤◌}
use mathlib.Core.Path.{◌≡◌, refl, ap, ◌∙◌}
use mathlib.Core.List.{List, [], ◌∷◌, ◌++◌, append_assoc}
use native.Mathlib.Omega.{arith}
use native.Mathlib.Numerals.{add-one}
use lib.ListN.{length, set, drop, get_or, length-append, length-drop}
use lib.Seq.{drop-cons, set-append_seam, take_at, drop_at, drop-drop}
use borrow.Rule.Slice.PartMut.{put_mid}
use Rattle.reading.specs.Lent.{laid}

module _ {X : Type 0} (p lent : List X) where
  pub length-laid : length p ≤ length lent → length (laid p lent) ≡ length lent
  length-laid h = grind (arith, length-append, length-drop)

  -- the next place takes the next value
  pub laid_next : (v : X) → length p < length lent → set (laid p lent) (length p) v ≡ laid (p ++ (v ∷ [])) lent
  laid_next v h =
      let n : length (p ++ (v ∷ [])) ≡ suc (length p) = length-append p (v ∷ []) ∙ add-one (length p) in
      rw (drop-cons lent (length p) v h, n, append_assoc) (set-append_seam p (get_or lent (length p) v) (drop (suc (length p)) lent) v)

  -- the next places take the next values, so many of them
  pub laid_block : (vs : List X) (at n : ℕ) → length p ≡ at → length vs ≡ n → put_mid at (at + n - at) (laid p lent) vs ≡ laid (p ++ vs) lent
  laid_block vs at n e f =
      let size : at + n - at ≡ n = omega arith in
      let whole : length (p ++ vs) ≡ at + n = omega (arith, length-append p vs) in
      let back : drop n (drop at (p ++ drop at lent)) ≡ drop (at + n) lent = ap (drop n) (drop_at p (drop at lent) at e) ∙ drop-drop n at lent in
      rw (size, whole, e, take_at p (drop at lent) at e, back, append_assoc) refl
