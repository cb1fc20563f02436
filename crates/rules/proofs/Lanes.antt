-- Three numbers of each finding, one after the other, over the front of a list. Assumes nothing.
use Rattle.std.proofs.Common.{◌≡◌, ℕ, ◌+◌, ◌-◌, ◌*◌, List, [], ◌∷◌, ◌++◌, length, refl, arith}
use borrow.Rule.Slice.PartMut.{put_mid}
use Rattle.reading.specs.Lent.{laid}
use Rattle.reading.proofs.Laid.{laid_block}
use Rattle.findings.specs.declared.Finding.{Finding}
use Rattle.rules.specs.Lanes.{Three, flat}

module _ (t : Finding → Three) where
  pub length-flat : (l : List Finding) → length (flat t l) ≡ 3 * length l
  length-flat [] = refl
  length-flat (f ∷ l) = omega (arith, length-flat l)

  flat_append : (l m : List Finding) → flat t (l ++ m) ≡ flat t l ++ flat t m
  flat_append [] m = refl
  flat_append (f ∷ l) m = grind (arith, flat_append l m)

  -- the next three places take one finding more
  pub lane-on : (l : List Finding) (f : Finding) (e : List ℕ) (n : ℕ) → n ≡ length l
      → put_mid (3 * n) (3 * n + 3 - 3 * n) (laid (flat t l) e) ((t f).a ∷ (t f).b ∷ (t f).c ∷ []) ≡ laid (flat t (l ++ (f ∷ []))) e
  lane-on l f e n h =
      let p : length (flat t l) ≡ 3 * n = omega (arith, length-flat l) in
      rw (flat_append l (f ∷ [])) (laid_block (flat t l) e ((t f).a ∷ (t f).b ∷ (t f).c ∷ []) (3 * n) 3 p refl)
