-- The laws of `trimmed`: it leaves out the spaces that end a list and nothing else. Then the turns of the loop that finds its length.
-- Assumes nothing.
use Prim.Native.Nat.{ℕ, zero, suc, ◌+◌, ◌-◌, ◌<◌, ◌≤◌}
use Rattle.std.specs.Prelude.{Option, Some, None}
use mathlib.Core.Path.{◌≡◌, refl, ap, sym, subst, ◌∙◌}
use mathlib.Core.List.{List, [], ◌∷◌, ◌++◌, append-nil, append_assoc}
use native.Mathlib.Omega.{arith}
use lib.Dec.{eqb}
use lib.ListN.{length, take, drop, get_or, replicate, length-append, length-drop}
use lib.Seq.{take-suc, take-length, take-append_seam, get_or-drop}
use Rattle.std.specs.List.{suffix_len}
use Rattle.std.proofs.lemmas.List.Sums.{suffix_len-take_yes, suffix_len-take_no}
use borrow.Author.Tests.{eqb-true, eqb-false, ne_eqb}
use Rattle.reading.specs.View.{view}
use Rattle.reading.specs.Made.{firsts}
use Rattle.reading.proofs.Made.{length-firsts, front-is}
use Rattle.reading.proofs.Picked.{by-test}
use Rattle.reading.specs.Ranges.{missing_at, reach_of}
use Rattle.reading.proofs.Reach.{by-missing, none-missing, cut}
use Rattle.manufacturing.specs.Block.{manufacturing_ranges}
use Rattle.manufacturing.specs.Part.{before, trimmed, field_at, field_of, part_of, part_kept_of, IsTrimmed}

-- one byte more in front
step : (b : ℕ) (l t : List ℕ) → IsTrimmed l t → IsTrimmed (b ∷ l) (before b t)
step b l [] h = by-test (eqb b 32)
    (λ y. rw y (record {
      spaces = suc h.spaces;
      all = λ i. eqb-true b 32 y i ∷ h.all i;
      ends = λ p e. omega (arith, simp length-append at (ap length e));
    }))
    (λ n. rw n (record {
      spaces = h.spaces;
      all = λ i. b ∷ h.all i;
      ends = one b (eqb-false b 32 n);
    }))
  where
    one : (b : ℕ) → (b ≡ 32 → ⊥) → (p : List ℕ) → b ∷ [] ≡ p ++ (32 ∷ []) → ⊥
    one b n [] e = n (cc)
    one b n (c ∷ p) e = omega (arith, simp length-append at (ap length e))
step b l (x ∷ t) h =
    record {
      spaces = h.spaces;
      all = λ i. b ∷ h.all i;
      ends = more;
    }
  where
    more : (p : List ℕ) → b ∷ x ∷ t ≡ p ++ (32 ∷ []) → ⊥
    more [] e = omega (arith, ap length e)
    more (c ∷ p) e = h.ends p (cc)

pub trims : (l : List ℕ) → IsTrimmed l (trimmed l)
unfolding trimmed
trims [] = record { spaces = 0; all = refl; ends = λ p e. omega (arith, simp length-append at (ap length e)) }
trims (b ∷ l) = step b l (trimmed l) (trims l)

-- so it is the first bytes, as many as it has
pub trim-take : (l : List ℕ) {n : ℕ} → n ≡ length (trimmed l) → take n l ≡ trimmed l
trim-take l e = rw e (ap (take (length (trimmed l))) (trims l).all ∙ take-append_seam (trimmed l) (replicate (trims l).spaces 32))

-- a space more at the end changes nothing, and with another byte there the list stays whole
trim-space : (l : List ℕ) → trimmed (l ++ (32 ∷ [])) ≡ trimmed l
unfolding trimmed
trim-space [] = refl
trim-space (b ∷ l) = ap (before b) (trim-space l)

in-front : (x : ℕ) (l : List ℕ) (b : ℕ) → before x (l ++ (b ∷ [])) ≡ x ∷ (l ++ (b ∷ []))
in-front x [] b = refl
in-front x (y ∷ l) b = refl

trim-other : (l : List ℕ) (b : ℕ) → (b ≡ 32 → ⊥) → trimmed (l ++ (b ∷ [])) ≡ l ++ (b ∷ [])
unfolding trimmed
trim-other [] b n = rw (ne_eqb b 32 n)
trim-other (x ∷ l) b n = ap (before x) (trim-other l b n) ∙ in-front x l b

-- no other bytes are so
trim-spaces : (t : List ℕ) (n : ℕ) → trimmed (t ++ replicate n 32) ≡ trimmed t
trim-spaces t zero = ap trimmed (append-nil t)
trim-spaces t (suc n) = ap trimmed (sym (append_assoc t (32 ∷ []) (replicate n 32))) ∙ trim-spaces (t ++ (32 ∷ [])) n ∙ trim-space t

trim_same : (t : List ℕ) → ((p : List ℕ) → t ≡ p ++ (32 ∷ []) → ⊥) → trimmed t ≡ t
unfolding trimmed
trim_same [] h = refl
trim_same (b ∷ []) h = rw (ne_eqb b 32 (λ e. h [] (λ i. e i ∷ [])))
trim_same (b ∷ x ∷ t) h = ap (before b) (trim_same (x ∷ t) (λ p e. h (b ∷ p) (λ i. b ∷ e i)))

pub trimmed-once : (l t : List ℕ) → IsTrimmed l t → t ≡ trimmed l
trimmed-once l t h = sym (ap trimmed h.all ∙ trim-spaces t h.spaces ∙ trim_same t h.ends)

-- so the spaces that end a list may be counted from its end: of the first n bytes, and of all
module _ (l : List ℕ) where
  abbrev spaces : ℕ → ℕ
  spaces n = suffix_len (λ b. eqb b 0x20) (take n l)

  last : (n : ℕ) → suc n ≤ length l → take (suc n) l ≡ take n l ++ (get_or l n 0 ∷ [])
  last n fits = take-suc l n 0 (omega arith)

  pred : (n : ℕ) → suc n - 1 ≡ n
  pred n = omega arith

  trim-first : (n : ℕ) → n ≤ length l → take (n - spaces n) l ≡ trimmed (take n l)
  unfolding trimmed
  trim-first zero fits = refl
  trim-first (suc n) fits = by-test (eqb (get_or l n 0) 0x20)
      (λ y.
      let counted : spaces (suc n) ≡ 1 + spaces n = rw (pred n) at (suffix_len-take_yes (λ b. eqb b 0x20) l (suc n) 0 (omega arith) fits (rw (pred n) y)) in
      let fewer : suc n - spaces (suc n) ≡ n - spaces n = omega arith in
      ap (λ (k : ℕ). take k l) fewer
      ∙ trim-first n (omega arith)
      ∙ sym (trim-space (take n l))
      ∙ ap trimmed (sym (last n fits ∙ ap (λ (b : ℕ). take n l ++ (b ∷ [])) (eqb-true (get_or l n 0) 32 y))))
      (λ y.
      let counted : spaces (suc n) ≡ 0 = suffix_len-take_no (λ b. eqb b 0x20) l (suc n) 0 (omega arith) fits (rw (pred n) y) in
      let all : suc n - spaces (suc n) ≡ suc n = omega arith in
      ap (λ (k : ℕ). take k l) all
      ∙ last n fits
      ∙ sym (trim-other (take n l) (get_or l n 0) (eqb-false (get_or l n 0) 32 y))
      ∙ ap trimmed (sym (last n fits)))

  pub trim_counted : take (length l - suffix_len (λ b. eqb b 0x20) l) l ≡ trimmed l
  trim_counted = rw take-length at (trim-first (length l) (omega arith))

-- the thirty bytes are a part of an image that has them
pub field_is : (s : List ℕ) → 551 ≤ length s → take 30 (drop 521 s) ≡ field_at (view s)
unfolding field_at
field_is s h = front-is 30 (drop 521 s) (omega (arith, length-drop 521 s)) ∙ (λ j. firsts 30 (λ i. get_or-drop 521 s i 0 j))

module _ (s : List ℕ) where
  pub field_long : reach_of manufacturing_ranges ≤ length s → Some (take 30 (drop 521 s)) ≡ field_of s
  unfolding field_of
  field_long h = rw (none-missing manufacturing_ranges s h) (ap Some (field_is s (omega arith)))

  pub field_short : length s < reach_of manufacturing_ranges → None ≡ field_of s
  unfolding field_of
  field_short h = sym (cut manufacturing_ranges s (λ t. None) _ h)

  -- so of the thirty bytes, where an image has them, both calls make what they promise
  abbrev pub Parted : Option (List ℕ) → Type 0
  Parted (Some field) = (trimmed field ≡ part_of s) × (record { bytes = field; len = length (trimmed field) } ≡ part_kept_of s)
  Parted None = ([] ≡ part_of s) × (record { bytes = replicate 30 0; len = 0 } ≡ part_kept_of s)

  parted : Parted (field_of s)
  unfolding field_of part_of part_kept_of
  parted = by-missing (missing_at manufacturing_ranges (view s)) (λ e. rw e (rw e refl, rw e refl)) (λ i e. rw e (rw e refl, rw e refl))

  pub part_some : (field : List ℕ) → Some field ≡ field_of s → trimmed field ≡ part_of s
  part_some field e = (subst Parted (sym e) parted).0

  pub kept_some : (field : List ℕ) → Some field ≡ field_of s → record { bytes = field; len = length (trimmed field) } ≡ part_kept_of s
  kept_some field e = (subst Parted (sym e) parted).1

  pub part_no : None ≡ field_of s → [] ≡ part_of s
  part_no e = (subst Parted (sym e) parted).0

  pub kept_no : None ≡ field_of s → record { bytes = replicate 30 0; len = 0 } ≡ part_kept_of s
  kept_no e = (subst Parted (sym e) parted).1

-- the part number never has more than thirty bytes
pub part-few : (s : List ℕ) → length (part_of s) ≤ 30
unfolding part_of field_at
part-few s = by-missing (missing_at manufacturing_ranges (view s))
    (λ e.
    rw e
    (omega (arith, length-firsts 30 (λ i. get_or s (521 + i) 0), ap length (trims (field_at (view s))).all, length-append (trimmed (field_at (view s))) (replicate (trims (field_at (view s))).spaces 32))))
    (λ i e. rw e (omega arith))

-- the part number of an image that is long enough: with the spaces behind it, it is bytes 521 to 550, and it does not end in one
pub part-is : (s : List ℕ) → reach_of manufacturing_ranges ≤ length s → IsTrimmed (take 30 (drop 521 s)) (part_of s)
unfolding part_of
part-is s h = rw (none-missing manufacturing_ranges s h, field_is s (omega arith)) (trims (field_at (view s)))

-- of one that is not, it is empty
pub part_none : (s : List ℕ) → length s < reach_of manufacturing_ranges → part_of s ≡ []
unfolding part_of
part_none s h = cut manufacturing_ranges s (λ t. []) _ h

-- by value it is the first of the thirty bytes, as many as its length says
pub part-kept-is : (s : List ℕ) → take (part_kept_of s).len (part_kept_of s).bytes ≡ part_of s
unfolding part_of part_kept_of
part-kept-is s = by-missing (missing_at manufacturing_ranges (view s)) (λ e. rw e (trim-take (field_at (view s)) refl)) (λ i e. rw e refl)
