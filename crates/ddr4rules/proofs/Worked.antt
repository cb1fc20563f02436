-- A DDR4 image that breaks all three rules, and others, computed. Assumes nothing.
use Prim.Native.Nat.{ℕ}
use mathlib.Core.Path.{◌≡◌, refl}
use mathlib.Core.List.{List, [], ◌∷◌}
use Rattle.reading.specs.Ranges.{missing_at}
use Rattle.reading.specs.Made.{Image}
use Rattle.reading.proofs.Made.{made}
use Rattle.rules.specs.Table.{non_integer_device_count, timing_ordering_violation}
use Rattle.rules.specs.declared.TimingOrder.TheVariants.{RasGeRcd, RcGeRas}
use Rattle.ddr4.proofs.Worked.{module2400}
use Rattle.ddr4rules.specs.Lint.{ddr4_found, ddr4_lint_at}

abbrev image : List (ℕ × ℕ) → Image
image nonzero = record { size = 126; nonzero = nonzero }

-- an ordinary module has none
pub clean : ddr4_lint_at (made (image module2400)) ≡ []
unfolding module2400 missing_at ddr4_found
clean = refl

-- bus 8 with devices of 16; tRAS 125 against tRCD 13750; tRC 110 against tRAS 125
pub all_three : ddr4_lint_at (made (image ((12, 2) ∷ (13, 0) ∷ (27, 0) ∷ (28, 1) ∷ (29, 1) ∷ (120, 0xF1) ∷ module2400)))
    ≡ non_integer_device_count 8 16 ∷ timing_ordering_violation RasGeRcd 125 13750 ∷ timing_ordering_violation RcGeRas 110 125 ∷ []
unfolding module2400 missing_at ddr4_found
all_three = refl

-- equal times are in order
pub ddr4_lint_at-in_order : ddr4_lint_at (made (image ((27, 0) ∷ (28, 110) ∷ (29, 110) ∷ module2400))) ≡ []
unfolding module2400 missing_at ddr4_found
ddr4_lint_at-in_order = refl

-- a refused image has none, whatever its times are: tCK is below zero
pub refused-has-none : ddr4_lint_at (made (image ((18, 0) ∷ (27, 0) ∷ (28, 1) ∷ (29, 1) ∷ module2400))) ≡ []
unfolding module2400 missing_at ddr4_found
refused-has-none = refl
