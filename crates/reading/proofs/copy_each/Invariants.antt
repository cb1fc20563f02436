-- The first i bytes stand in front. The search finds no invariant. Assumes nothing.
use Rattle.std.proofs.Common.{◌≡◌, take}
use Rattle.reading.specs.Lent.{laid}
use Rattle.reading.proofs.copy_each.Given as goal

abbrev pub invariant-loop-i : goal.invariant-loop-i
invariant-loop-i l = l.place ≡ laid (take l.i l.bytes) l.fn.place
