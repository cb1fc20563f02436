-- How a list of findings, the array that holds it and a lent list go over into each other, and how many places are written and read.
-- Assumes nothing.
use Rattle.std.specs.Prelude.{Option}
use Prim.Native.Nat.{ℕ, ◌+◌, ◌-◌, ◌<◌, ◌≤◌}
use mathlib.Core.Path.{◌≡◌, refl, ap, sym, ◌∙◌}
use mathlib.Core.List.{List, [], ◌∷◌, ◌++◌, append_assoc}
use native.Mathlib.Omega.{arith}
use native.Mathlib.Numerals.{add-one}
use borrow.Author.Tests.{ltb-false}
use lib.Dec.{ltb}
use lib.ListN.{length, take, drop, set, get_or, replicate, length-append, length-replicate, replicate-append-replicate}
use lib.Seq.{length-take-le, take-suc, take-append_seam, take-length, drop_at}
use Rattle.reading.specs.Lent.{laid, listed}
use Rattle.reading.proofs.Picked.{by-test}
use Rattle.reading.proofs.Laid.{laid_next}
use Rattle.findings.specs.Hold.{blank_finding, blank_items, holding, to_list, cat}
use Rattle.findings.specs.Lent.{least, places_of, load_count, loaded_of}
use Rattle.findings.specs.declared.Finding.{Finding}

-- ---- how many places
least-fits : (n len : ℕ) → n ≤ 15 → n ≤ len → least n (least 15 len) ≡ n
unfolding least
least-fits n len h k = grind arith

pub kept-few : (len : ℕ) → len < 16 → load_count len ≡ len
unfolding load_count
kept-few len h = grind arith

-- ---- the list ys with its first n places from xs
abbrev pub over : {X : Type 0} → ℕ → List X → List X → List X
over n xs ys = laid (take n xs) ys

module _ {X : Type 0} (d : X) (xs ys : List X) where
  -- one more place
  pub over-step : (i : ℕ) → i < length xs → i < length ys → set (over i xs ys) i (get_or xs i d) ≡ over (i + 1) xs ys
  over-step i h k =
      let e = length-take-le i xs (omega arith) in
      rw (add-one, take-suc xs i d h) (ap (λ (n : ℕ). set (over i xs ys) n (get_or xs i d)) (sym e) ∙ laid_next (take i xs) ys (get_or xs i d) (omega arith))

-- ---- what holds a list
pub list_held : (l : List Finding) → take (holding l).count (holding l).items ≡ l
unfolding holding
list_held l = take-append_seam l (replicate (15 - length l) blank_finding)

-- what `fill` leaves, as a caller says it
pub filled : (l ys : List Finding) (need : ℕ) → length l ≤ 15 → length l ≤ need → over (places_of (length ys) need (length l)) (holding l).items ys ≡ listed need l ys
unfolding holding places_of
filled l ys need h k = by-test (ltb (length ys) need)
    (λ e. rw e)
    (λ e. let m = ltb-false (length ys) need e in rw (e, least-fits (length l) (length ys) h (omega arith), list_held l))

blanks-left : (n : ℕ) → n ≤ 15 → drop n blank_items ≡ replicate (15 - n) blank_finding
blanks-left n h =
    let e : n + (15 - n) ≡ 15 = omega arith in
    let p : replicate n blank_finding ++ replicate (15 - n) blank_finding ≡ blank_items = replicate-append-replicate n (15 - n) blank_finding ∙ ap (λ (m : ℕ). replicate m blank_finding) e in
    ap (drop n) (sym p) ∙ drop_at (replicate n blank_finding) (replicate (15 - n) blank_finding) n (length-replicate n blank_finding)

-- what `load` reads, where the list is not too long
pub load-held : (ys : List Finding) → length ys ≤ 15 → loaded_of ys ≡ holding ys
unfolding holding
load-held ys h = rw (kept-few (length ys) (omega arith), take-length ys, blanks-left (length ys) h)

-- a list over the front of blank places
pub blanks_filled : (l : List Finding) → length l ≤ 15 → laid l blank_items ≡ (holding l).items
unfolding holding
blanks_filled l h = rw (blanks-left (length l) h)

-- ---- a rule adds at most one finding, and so a row of rules no more than it has rules
pub length-to_list : (x : Option Finding) → length (to_list x) ≤ 1
length-to_list x = grind arith

pub length-cat : (xs : List (Option Finding)) → length (cat xs) ≤ length xs
length-cat [] = omega arith
length-cat (x ∷ xs) = omega (arith, length-cat xs, length-to_list x, length-append (to_list x) (cat xs))

pub cat-append : (xs ys : List (Option Finding)) → cat (xs ++ ys) ≡ cat xs ++ cat ys
cat-append [] ys = refl
cat-append (x ∷ xs) ys = rw (cat-append xs ys, append_assoc)
