-- The findings of an image by what the decoder says of it; at most three. Assumes nothing.
use Rattle.std.specs.Prelude.{Ok, Err}
use Prim.Native.Nat.{ℕ, ◌≤◌}
use mathlib.Core.Path.{◌≡◌, refl}
use mathlib.Core.List.{List, [], ◌∷◌}
use native.Mathlib.Omega.{arith}
use lib.ListN.{length}
use Rattle.reading.specs.Refusal.{Answer, onward}
use Rattle.reading.specs.declared.Refusal.{Refusal}
use Rattle.findings.proofs.Laws.{length-cat}
use Rattle.ddr4.specs.Module.{ddr4_of}
use Rattle.ddr4.specs.declared.Ddr4.{Ddr4}
use Rattle.ddr4rules.specs.Lint.{ddr4_says, ddr4_found, ddr4_findings_of}

module _ (s : List ℕ) where
  -- of a decoded image those of its record, of a refused one none
  pub of-record : {d : Ddr4} → ddr4_of s ≡ Ok d → ddr4_findings_of s ≡ ddr4_found d
  unfolding ddr4_findings_of ddr4_of
  of-record e = rw e refl

  pub of-refused : {t : Refusal} → ddr4_of s ≡ Err t → ddr4_findings_of s ≡ []
  unfolding ddr4_findings_of ddr4_of
  of-refused e = rw e refl

-- a rule gives one finding at most
pub record_few : (d : Ddr4) → length (ddr4_found d) ≤ 3
unfolding ddr4_found
record_few d = let said = ddr4_says d in length-cat (said.devices ∷ said.ras ∷ said.rc ∷ [])

few : (said : Answer Ddr4) → length (onward (λ t. []) said ddr4_found) ≤ 3
few (Ok d) = record_few d
few (Err t) = omega arith

pub at-most-three : (s : List ℕ) → length (ddr4_findings_of s) ≤ 3
unfolding ddr4_findings_of ddr4_of
at-most-three s = few (ddr4_of s)

-- the findings of an image, by what its decoder answers
pub by_answer : (s : List ℕ) → ddr4_findings_of s ≡ onward (λ t. []) (ddr4_of s) ddr4_found
unfolding ddr4_findings_of ddr4_of
by_answer s = refl
