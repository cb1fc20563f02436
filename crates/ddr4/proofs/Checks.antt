-- A row of checks for one value answers for another as it does for this one. Assumes nothing.
use Rattle.std.specs.Prelude.{Ok, Err}
use Prim.Native.Nat.{ℕ}
use mathlib.Core.Path.{◌≡◌, refl, ap}
use mathlib.Core.List.{List, [], ◌∷◌}
use mathlib.Core.Bool.{Bool, true, false}
use native.Mathlib.Omega.{arith}
use Rattle.reading.specs.Refusal.{Answer}
use Rattle.reading.specs.declared.Refusal.{Refusal}
use Rattle.ddr4.specs.Module.{first_of}

-- a row of checks answers for another value as it does for this one
module _ {A B : Type 0} (good : Answer A) (half : B) where
  pub passes : (xs : List (Bool × Refusal)) {b : B} → first_of (Ok half) xs ≡ Ok b → first_of good xs ≡ good
  passes [] e = refl
  passes ((true, w) ∷ xs) e = absurd (let z : ◌≡◌ {A = ℕ} 0 1 = cc in omega arith)
  passes ((false, w) ∷ xs) e = passes xs e

  pub stops : (xs : List (Bool × Refusal)) {t : Refusal} → first_of (Ok half) xs ≡ Err t → first_of good xs ≡ Err t
  stops [] e = absurd (let z : ◌≡◌ {A = ℕ} 0 1 = cc in omega arith)
  stops ((true, w) ∷ xs) {t} e = let z : w ≡ t = cc in ap Err z
  stops ((false, w) ∷ xs) e = stops xs e

-- what passes gives what is good
pub given : {B : Type 0} (half : B) (xs : List (Bool × Refusal)) {b : B} → first_of (Ok half) xs ≡ Ok b → half ≡ b
given half [] e = cc
given half ((true, w) ∷ xs) e = absurd (let z : ◌≡◌ {A = ℕ} 0 1 = cc in omega arith)
given half ((false, w) ∷ xs) e = given half xs e
