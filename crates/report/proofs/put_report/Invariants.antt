-- The head and the findings passed stand in front. The search finds no invariant. Assumes nothing.
use Rattle.std.proofs.Common.{◌≡◌, ◌+◌, ◌*◌, ◌++◌, length, take}
use Rattle.report.specs.Form.{finding_size, head_size, head_of, body_of}
use Rattle.report.proofs.put_report.Given as goal

abbrev pub invariant-loop-i : goal.invariant-loop-i
invariant-loop-i l = take (head_size + finding_size * l.i) l.place ≡ head_of l.flags (length l.list) ++ body_of (take l.i l.list)
