-- The findings of the first regions stand behind those that were there. The search finds no invariant. Assumes nothing.
use Rattle.std.proofs.Common.{◌≡◌, ◌+◌, ◌≤◌, ◌++◌, length, take}
use Rattle.reading.specs.View.{view}
use Rattle.findings.specs.Hold.{cat}
use Rattle.rules.specs.Regions.{region_rules}
use Rattle.rules.specs.Rules.{each}
use Rattle.rules.proofs.gather.Gathered.check_regions.Given as goal

abbrev pub invariant-loop-region : goal.invariant-loop-region
invariant-loop-region l =
    (l.self ≡ l.fn.self ++ cat (take l.region-index (each region_rules (view l.image)))) × (length l.self ≤ length l.fn.self + l.region-index)
