-- The findings of a DDR4 image look at the bytes alone that its decoder reads, and so at the first 126. Assumes nothing.
use mathlib.Core.Path.{ap}
use mathlib.Core.List.{[]}
use Rattle.reading.specs.View.{Within}
use Rattle.reading.specs.Refusal.{onward}
use Rattle.reading.specs.Ranges.{reach_of, Only}
use Rattle.reading.proofs.Reach.{only-within}
use Rattle.ddr4.specs.Module.{ddr4_ranges}
use Rattle.ddr4.proofs.Reach.{ddr4-only}
use Rattle.ddr4rules.specs.Lint.{ddr4_found, ddr4_lint_at}

pub lint-only : Only ddr4_ranges ddr4_lint_at
lint-only v = ap (λ said. onward (λ t. []) said ddr4_found) (ddr4-only v)

pub lint-reach : Within (reach_of ddr4_ranges) ddr4_lint_at
lint-reach = only-within ddr4_ranges lint-only
