-- The laws of `pick`. Assumes nothing.
use mathlib.Core.Path.{◌≡◌, refl, sym}
use mathlib.Core.Bool.{Bool, true, false, true≢false}
use Rattle.reading.specs.Pick.{pick, and}

-- a function of what is picked picks between its values
pub pick-ap : {A B : Type 0} (f : A → B) (t : Bool) (a b : A) → f (pick t a b) ≡ pick t (f a) (f b)
pick-ap f true a b = refl
pick-ap f false a b = refl

-- what holds of both holds of the one that is picked
pub either : {A : Type 0} (P : A → Type 0) (t : Bool) {a b : A} → P a → P b → P (pick t a b)
either P true p q = p
either P false p q = q

-- a test has two ends
pub by-test {ℓ} : {P : Type ℓ} (t : Bool) → (t ≡ true → P) → (t ≡ false → P) → P
by-test true f g = f refl
by-test false f g = g refl

-- where two tests hold together, each holds
pub both : (a b : Bool) → and a b ≡ true → (a ≡ true) × (b ≡ true)
both true b e = (refl, e)
both false b e = absurd (true≢false (sym e))
