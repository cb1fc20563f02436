-- The numbers of the first i findings stand in the list. The search finds no invariant. Assumes nothing.
use Rattle.std.proofs.Common.{◌≡◌, ◌++◌, take}
use Rattle.reading.specs.Lent.{laid}
use Rattle.roostcord.specs.Numbers.{finding_numbers}
use Rattle.roostcord.proofs.numbers.put_findings.Given as goal

abbrev pub invariant-loop-i : goal.invariant-loop-i
invariant-loop-i l = l.out ≡ laid (take l.from l.fn.out ++ finding_numbers (take l.i l.findings)) l.fn.out
