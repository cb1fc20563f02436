-- Numbers held one behind the other are all the same exactly when those that the record has there are ours. Assumes nothing.
use Prim.Native.Nat.{ℕ, ◌+◌, ◌*◌, ◌≤◌}
use mathlib.Core.Path.{◌≡◌, refl, sym, ◌∙◌}
use mathlib.Core.Bool.{Bool, true, false}
use mathlib.Core.List.{List, [], ◌∷◌}
use native.Mathlib.Omega.{arith}
use lib.Dec.{eqb, ltb}
use lib.ListN.{length}
use borrow.Author.Tests.{eqb-true, eq-eqb, le-ltb}
use Rattle.reading.specs.Pick.{pick}
use Rattle.reading.specs.View.{View}
use Rattle.reading.proofs.Picked.{either, pick-ap}
use Rattle.replay.specs.declared.Cursor.{Cursor}
use Rattle.replay.specs.Held.{packed_in, behind, held, held_all, numbers_from}

-- what a cursor that is still the same says of the number before it
record Kept (v : View) (c : Cursor) (n : ℕ) : Type 0 where
  before : c.same ≡ true
  number : packed_in v c.at ≡ n
  place : (held v c n).at ≡ behind v c.at

split : (far equal same : Bool) → pick far false (pick equal same false) ≡ true → (far ≡ false) × (equal ≡ true) × (same ≡ true)
split true equal same h = (cc, cc, cc)
split false true same h = (refl, refl, h)
split false false same h = (cc, cc, cc)

kept : (v : View) (c : Cursor) (n : ℕ) → (held v c n).same ≡ true → Kept v c n
unfolding held
kept v c n h =
    let s = split (ltb 65535 c.at) (eqb (packed_in v c.at) n) c.same (sym (pick-ap (λ (x : Cursor). x.same) (ltb 65535 c.at) _ _) ∙ h) in
    record { before = s.2; number = eqb-true _ _ s.1; place = rw s.0 }

pub all_same : (v : View) (c : Cursor) (ours : List ℕ) → (held_all v c ours).same ≡ true → (c.same ≡ true) × (numbers_from v c.at (length ours) ≡ ours)
all_same v c [] h = (h, refl)
all_same v c (n ∷ ns) h =
    let rest = all_same v (held v c n) ns h in
    let k = kept v c n rest.0 in
    (k.before, rw (k.number, ← k.place, rest.1))

near : (v : View) (at : ℕ) → behind v at ≤ at + 5
unfolding behind
near v at = either (λ x. x ≤ at + 5) (ltb (v.byte at) 254) (omega arith) (either (λ x. x ≤ at + 5) (eqb (v.byte at) 254) (omega arith) (omega arith))

-- a number that is ours moves the cursor and nothing else
moves : (v : View) (c : Cursor) (n : ℕ) → c.at ≤ 65535 → packed_in v c.at ≡ n → held v c n ≡ record { at = behind v c.at; same = c.same }
unfolding held
moves v c n h e = rw (le-ltb 65535 c.at h, eq-eqb _ _ e)

pub same-all : (v : View) (c : Cursor) (ours : List ℕ) → c.at + 5 * length ours ≤ 65536 → c.same ≡ true → numbers_from v c.at (length ours) ≡ ours → (held_all v c ours).same ≡ true
same-all v c [] h s e = s
same-all v c (n ∷ ns) h s e =
    let e' : packed_in v c.at ∷ numbers_from v (behind v c.at) (length ns) ≡ n ∷ ns = e in
    let number : packed_in v c.at ≡ n = cc in
    let rest : numbers_from v (behind v c.at) (length ns) ≡ ns = cc in
    let k = near v c.at in
    let room : behind v c.at + 5 * length ns ≤ 65536 = omega arith in
    rw (held_all, moves v c n (omega arith) number) (same-all v (record { at = behind v c.at; same = c.same }) ns room s rest)
