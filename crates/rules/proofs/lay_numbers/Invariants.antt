-- The first i findings stand in both lists. The search finds no invariant. Assumes nothing.
use Rattle.std.proofs.Common.{◌≡◌, take}
use Rattle.reading.specs.Lent.{laid}
use Rattle.rules.specs.Lanes.{small_of, numbers_of, flat}
use Rattle.rules.proofs.lay_numbers.Given as goal

abbrev pub invariant-loop-i : goal.invariant-loop-i
invariant-loop-i l =
    (l.heads ≡ laid (flat small_of (take l.i l.found)) l.fn.heads) × (l.numbers ≡ laid (flat numbers_of (take l.i l.found)) l.fn.numbers)
