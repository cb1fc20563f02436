-- The ladder of each edition is a list of rates: nine, and document 01's fifteen. Nothing is promised in terms of the lists. Assumes nothing.
use Rattle.std.specs.Prelude.{Some, None}
use Prim.Native.Nat.{ℕ, zero, suc, ◌+◌, ◌-◌, ◌*◌, ◌/◌, ◌%◌, ◌<◌}
use mathlib.Core.Path.{◌≡◌, refl, sym, ◌∙◌, fun_ext}
use mathlib.Core.List.{List, [], ◌∷◌}
use mathlib.Core.Bool.{Bool, true, false, true≢false}
use native.Mathlib.Omega.{arith}
use lib.Dec.{eqb, leb}
use borrow.Author.Tests.{leb-true, eqb-true, eq-eqb, ne_eqb}
use Rattle.reading.specs.Pick.{pick, and}
use Rattle.reading.proofs.Picked.{either, by-test, both}
use Rattle.rules.specs.declared.Edition.{Edition}
use Rattle.rules.specs.declared.Edition.TheVariants.{First, Second}
use Rattle.rules.specs.Table.{non_standard_data_rate}
use Rattle.rules.specs.Rules.{top, on_ladder, standard_rate}

abbrev pub rates : Edition → List ℕ
rates First = 3200 ∷ 3600 ∷ 4000 ∷ 4400 ∷ 4800 ∷ 5200 ∷ 5600 ∷ 6000 ∷ 6400 ∷ []
rates Second = 3200 ∷ 3600 ∷ 4000 ∷ 4400 ∷ 4800 ∷ 5200 ∷ 5600 ∷ 6000 ∷ 6400 ∷ 6800 ∷ 7200 ∷ 7600 ∷ 8000 ∷ 8400 ∷ 8800 ∷ []

abbrev pub is_in : ℕ → List ℕ → Bool
is_in x [] = false
is_in x (y ∷ l) = pick (eqb y x) true (is_in x l)

-- n rates from one on, in steps of 400
abbrev steps : ℕ → ℕ → List ℕ
steps rate zero = []
steps rate (suc n) = rate ∷ steps (rate + 400) n

-- the rate of a place is among them
on : (x r n k : ℕ) → k < n → r + 400 * k ≡ x → is_in x (steps r n) ≡ true
on x r zero k h e = absurd (omega arith)
on x r (suc n) zero h e = rw (eq-eqb r x (omega arith))
on x r (suc n) (suc k) h e =
    rw (on x (r + 400) n k (omega arith) (omega arith)) (either (λ b. b ≡ true) (eqb r x) refl refl)

-- and no other
off : (x r n : ℕ) → ((k : ℕ) → k < n → r + 400 * k ≡ x → ⊥) → is_in x (steps r n) ≡ false
off x r zero h = refl
off x r (suc n) h = rw (
  ne_eqb r x (λ e. h 0 (omega arith) (omega arith)),
  off x (r + 400) n (λ k l e. h (suc k) (omega arith) (omega arith)),
)

-- how many rates an edition has: its list is so many steps from 3200 on, and its end is the last of them
abbrev rungs : Edition → ℕ
rungs First = 9
rungs Second = 15

stepped : (e : Edition) → rates e ≡ steps 3200 (rungs e)
stepped First = refl
stepped Second = refl

ends : (e : Edition) → top e + 400 ≡ 3200 + 400 * rungs e
ends First = refl
ends Second = refl

-- each step up from 3200 is on the ladder
rising : (e : Edition) (rate k : ℕ) → k < rungs e → 3200 + 400 * k ≡ rate → on_ladder e rate ≡ true
unfolding on_ladder
rising e rate k h m = grind arith

-- and what is on the ladder is one of the steps
among : (e : Edition) (rate : ℕ) → on_ladder e rate ≡ true → is_in rate (steps 3200 (rungs e)) ≡ true
unfolding on_ladder
among e rate m =
    let (low, rest) = both (leb 3200 rate) (and (leb rate (top e)) (eqb (rate % 400) 0)) m in
    let (high, whole) = both (leb rate (top e)) (eqb (rate % 400) 0) rest in
    let from = leb-true 3200 rate low in
    let to = leb-true rate (top e) high in
    let multiple = eqb-true (rate % 400) 0 whole in
    on rate 3200 (rungs e) ((rate - 3200) / 400) (omega (arith, to, ends e)) (omega (arith, from, multiple))

-- for every edition and every rate: on the ladder is in the list
pub listed : (e : Edition) (rate : ℕ) → on_ladder e rate ≡ is_in rate (rates e)
listed e rate = rw (stepped e)
    (by-test (on_ladder e rate)
    (λ m. m ∙ sym (among e rate m))
    (λ m. m ∙ sym (off rate 3200 (rungs e) (λ k l h. true≢false (sym (rising e rate k l h) ∙ m)))))

-- so the two are one function, and what is defined with the one is what is defined with the other
pub ladder-is-list : (e : Edition) → on_ladder e ≡ (λ rate. is_in rate (rates e))
ladder-is-list e = fun_ext (listed e)

-- and the rule on the rate, which alone asks for the ladder, is the one that goes by the list
pub rate-by-list : (e : Edition) (rate : ℕ) → standard_rate e rate ≡ pick (eqb rate 0) None (pick (is_in rate (rates e)) None (Some (non_standard_data_rate rate)))
rate-by-list e rate = rw (listed e rate)
