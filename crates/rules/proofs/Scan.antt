-- A region's bytes as the image has them, and bytes that join to 0. Assumes nothing.
use Rattle.std.proofs.Common.{◌≡◌, Bool, not, eqb, ltb, add-zero, sym, get_or-take, get_or-drop, ltb-false, cond, option_map, ℕ, ◌+◌, ◌-◌, ◌<◌, ◌≤◌, List, [], ◌∷◌, Option, Some, None, fold, position, bit_or, length, take, drop, get_or, zero, suc, refl, arith, drop-cons}
use Rattle.std.specs.List.{position_from}
use Rattle.std.proofs.lemmas.Nat.{le_or_l, le_or_r}
use Rattle.std.proofs.lemmas.Iterator.Adapters.{position_from-zero}
use Rattle.reading.specs.Pick.{pick}
use Rattle.reading.specs.View.{view}
use Rattle.reading.proofs.Picked.{by-test}
use Rattle.findings.specs.declared.Finding.{Finding}
use Rattle.rules.specs.Table.{reserved_bytes_nonzero}
use Rattle.rules.specs.Regions.{first_from, region_at}
use Rattle.rules.specs.Scan.{is_nonzero, scanned}

le_fold-or : (xs : List ℕ) (a : ℕ) → a ≤ fold bit_or a xs
le_fold-or [] a = omega arith
le_fold-or (x ∷ xs) a = omega (arith, le_or_l a x, le_fold-or xs (bit_or a x))

position_from-joined : (xs : List ℕ) (i a : ℕ) → fold bit_or a xs ≡ 0 → position_from is_nonzero i xs ≡ None
position_from-joined [] i a joined = refl
position_from-joined (x ∷ xs) i a joined =
    let zero-here : x ≡ 0 = omega (arith, le_or_r a x, le_fold-or xs (bit_or a x)) in
    let rest = position_from-joined xs (i + 1) (bit_or a x) joined in
    rw zero-here rest

-- where bytes join to 0, none is found
pub position_joined : (xs : List ℕ) → fold bit_or 0 xs ≡ 0 → position is_nonzero xs ≡ None
position_joined xs joined = rw (position_from-zero is_nonzero xs) (position_from-joined xs 0 0 joined)

-- a place counted from one later
later : (xs : List ℕ) (i : ℕ) → position_from is_nonzero (suc i) xs ≡ option_map suc (position_from is_nonzero i xs)
later [] i = refl
later (x ∷ xs) i = grind (arith, later xs (suc i))

-- one byte more at the front
step : (zero-here : Bool) (x : Finding) (f : ℕ → Finding) (rest : Option Finding) (p : Option ℕ) → x ≡ f 0 → rest ≡ option_map (λ i. f (suc i)) p
    → pick zero-here rest (Some x) ≡ option_map f (cond (not zero-here) (Some 0) (option_map suc p))
step zero-here x f rest p e h = grind arith

-- the first byte that is not zero, one by one or by its place in the part
found-in : (s : List ℕ) (n o : ℕ) (f : ℕ → Finding) → o + n ≤ length s → ((k : ℕ) → k < n → reserved_bytes_nonzero (o + k) (get_or s (o + k) 0) ≡ f k)
    → first_from (view s) o n ≡ option_map f (position_from is_nonzero 0 (take n (drop o s)))
found-in s zero o f inside each-is = refl
found-in s (suc n) o f inside each-is =
    let here : o < length s = omega arith in
    let first : reserved_bytes_nonzero o (get_or s o 0) ≡ f 0 = (simp add-zero at (each-is 0 (omega arith))) in
    let rest = found-in s n (suc o) (λ k. f (suc k)) (omega arith) (λ k h. let e : suc o + k ≡ o + suc k = omega arith in rw e (each-is (suc k) (omega arith))) in
    rw (drop-cons s o 0 here, later (take n (drop (suc o) s)) 0) (step (eqb (get_or s o 0) 0) (reserved_bytes_nonzero o (get_or s o 0)) f (first_from (view s) (suc o) n) _ first rest)

-- so a region that is scanned answers as it is defined
pub region_scanned : (s : List ℕ) (offset len : ℕ) → scanned offset len s ≡ region_at offset len (view s)
unfolding scanned region_at
region_scanned s offset len = by-test (ltb (length s) (offset + len))
    (λ t. rw t refl)
    (λ t.
    let inside : offset + len ≤ length s = omega (arith, ltb-false (length s) (offset + len) t) in
    let size : offset + len - offset ≡ len = omega arith in
    rw (t, size, position_from-zero is_nonzero (take len (drop offset s)))
    (sym (found-in s len offset (λ i. reserved_bytes_nonzero (offset + i) (get_or (take len (drop offset s)) i 0)) inside
    (λ k h. rw (get_or-take len (drop offset s) k 0 h, get_or-drop offset s k 0)))))
