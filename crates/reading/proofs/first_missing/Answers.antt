-- `reading::first_missing` meets its contract: the ranges one after the other. The search leaves it open. Assumes nothing.
use Rattle.std.proofs.Common.{◌∙◌}
use Rattle.reading.specs.View.{view}
use Rattle.reading.specs.Ranges.{ranges_of}
use Rattle.reading.proofs.Lacking.{each_range}
use Rattle.reading.proofs.first_missing.Goals as goal

pub returns : goal.returns
returns c = c.smallest_missing.ensures ∙ each_range (view c.args.image.now) (ranges_of c.args.starts.now c.args.lengths.now)
