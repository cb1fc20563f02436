-- The findings of an image look at its first 510 bytes alone, under either edition. Assumes nothing.
use mathlib.Core.Path.{refl}
use Rattle.reading.specs.View.{Within}
use Rattle.reading.specs.Ranges.{missing_at}
use Rattle.decoders.specs.Timing.{le16_at, pair_at, cas_at}
use Rattle.rules.specs.declared.Edition.{Edition}
use Rattle.rules.specs.Regions.{region_at}
use Rattle.rules.specs.Lint.{lint_at}

pub lint-reach : (e : Edition) → Within 510 (lint_at e)
unfolding lint_at region_at missing_at le16_at pair_at cas_at
lint-reach = λ e v. refl
