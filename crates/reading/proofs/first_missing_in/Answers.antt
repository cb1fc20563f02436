-- `reading::first_missing_in` meets its contract: the ranges one after the other. The search leaves it open. Assumes nothing.
use Rattle.std.proofs.Common.{◌∙◌}
use Rattle.reading.specs.View.{view}
use Rattle.reading.proofs.Lacking.{each_range}
use Rattle.reading.proofs.first_missing_in.Goals as goal

pub returns : goal.returns
returns c = c.smallest_missing_in.ensures ∙ each_range (view c.args.image.now) c.args.ranges.now
