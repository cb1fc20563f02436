-- The check looks at no byte past 511: an image cut there is answered alike. 512 is the number that its range reaches to. Assumes nothing.
use mathlib.Core.Path.{◌≡◌, refl}
use Rattle.reading.specs.View.{Within}
use Rattle.reading.specs.Ranges.{missing_at, reach_of, Only}
use Rattle.reading.specs.Made.{firsts}
use Rattle.reading.proofs.Reach.{only-within}
use Rattle.crc.specs.Base.{crc_ranges, covered_at, base_crc_at}

pub crc-only : Only crc_ranges base_crc_at
unfolding missing_at covered_at firsts
crc-only = λ v. refl

-- the length that document 02 names follows
pub crc-length : reach_of crc_ranges ≡ 512
crc-length = refl

pub crc-reach : Within (reach_of crc_ranges) base_crc_at
crc-reach = only-within crc_ranges crc-only
