-- `reading::copy_ends` meets its contract: the first and the last are all of the bytes. The search leaves it open. Assumes nothing.
use Rattle.std.proofs.Common.{◌+◌, ◌-◌, length, ◌∙◌, arith}
use Rattle.reading.proofs.Ends.{both_ends}
use Rattle.reading.proofs.copy_ends.Goals as goal

pub returns-in-Some-Some : goal.returns-in-Some-Some
returns-in-Some-Some g c =
    let m = length c.args.bytes.now - g.row.W in
    both_ends c.args.bytes.now c.args.place.now g.row.W m (omega arith) (omega arith) c.requires.room (m + g.row.W - m)
    (c.copy_from_slice.ensures.after ∙ c.in-Some-Some.ensures.cases.same)
    (c.copy_from_slice-in-Some-Some.ensures.after ∙ c.in-Some-Some.ensures'.cases.1.same)
    (omega arith)
