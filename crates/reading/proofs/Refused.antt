-- What holds of every refusal that an answer may be. Assumes nothing.
use Rattle.std.specs.Prelude.{Ok, Err}
use mathlib.Core.Path.{◌≡◌, refl}
use Rattle.reading.specs.Refusal.{Answer, onward}
use Rattle.reading.specs.declared.Refusal.{Refusal}

-- P holds of the refusal, where it is one
abbrev pub OfRefused : {A : Type 0} → (Refusal → Type 0) → Answer A → Type 0
OfRefused P (Ok a) = Unit {0}
OfRefused P (Err t) = P t

-- a step of a chain of checks
pub onward-refused : {A B : Type 0} (P : Refusal → Type 0) (s : Answer A) (go : A → Answer B) → OfRefused P s → ((a : A) → OfRefused P (go a)) → OfRefused P (onward Err s go)
onward-refused P (Ok a) go h k = k a
onward-refused P (Err t) go h k = h

-- a chain whose first step is a chain
pub onward-onward : {A B X : Type 0} (stop : Refusal → X) (s : Answer A) (f : A → Answer B) (go : B → X)
    → onward stop (onward Err s f) go ≡ onward stop s (λ a. onward stop (f a) go)
onward-onward stop (Ok a) f go = refl
onward-onward stop (Err t) f go = refl
