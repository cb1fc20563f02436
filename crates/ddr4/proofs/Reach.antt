-- A DDR4 answer looks at no byte outside the table: an image masked to its bytes decodes the same. So it looks at the first 126 bytes alone,
-- which is the number that the table reaches to. Assumes nothing.
use mathlib.Core.Path.{◌≡◌, refl}
use Rattle.reading.specs.View.{Within}
use Rattle.reading.specs.Ranges.{missing_at, reach_of, Only}
use Rattle.reading.proofs.Reach.{only-within}
use Rattle.ddr4.specs.Module.{ddr4_ranges, ddr4_at}

pub ddr4-only : Only ddr4_ranges ddr4_at
unfolding missing_at
ddr4-only = λ v. refl

-- the length that document 02 names follows
pub ddr4-length : reach_of ddr4_ranges ≡ 126
ddr4-length = refl

pub ddr4-reach : Within (reach_of ddr4_ranges) ddr4_at
ddr4-reach = only-within ddr4_ranges ddr4-only
