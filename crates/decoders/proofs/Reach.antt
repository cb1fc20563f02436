-- A decoder looks at no byte outside its table: an image masked to these bytes decodes the same. So identity looks at the first 236 bytes
-- alone, and timings at the first 94, which are the numbers that the tables reach to. Assumes nothing.
use mathlib.Core.Path.{◌≡◌, refl}
use Rattle.reading.specs.View.{Within}
use Rattle.reading.specs.Ranges.{missing_at, reach_of, Only}
use Rattle.reading.proofs.Reach.{only-within}
use Rattle.decoders.specs.Identity.{identity_ranges, identity_at}
use Rattle.decoders.specs.Timing.{timing_ranges, le16_at, pair_at, cas_at, times_at, timings_at}

pub identity-only : Only identity_ranges identity_at
unfolding missing_at
identity-only = λ v. refl

pub timings-only : Only timing_ranges timings_at
unfolding missing_at le16_at pair_at cas_at
timings-only = λ v. refl

pub times-only : Only timing_ranges times_at
unfolding le16_at pair_at cas_at
times-only = λ v. refl

-- the lengths that document 01 names follow
pub identity-length : reach_of identity_ranges ≡ 236
identity-length = refl

pub timings-length : reach_of timing_ranges ≡ 94
timings-length = refl

pub identity-reach : Within (reach_of identity_ranges) identity_at
identity-reach = only-within identity_ranges identity-only

pub timings-reach : Within (reach_of timing_ranges) timings_at
timings-reach = only-within timing_ranges timings-only

pub times-reach : Within (reach_of timing_ranges) times_at
times-reach = only-within timing_ranges times-only
