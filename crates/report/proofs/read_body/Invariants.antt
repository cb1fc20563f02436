-- The findings of the first i places stand over blank ones. The search finds no invariant. Assumes nothing.
use Rattle.std.proofs.Common.{◌≡◌}
use Rattle.findings.specs.Hold.{blank_items}
use Rattle.findings.proofs.Laws.{over}
use Rattle.report.specs.Form.{findings_in}
use Rattle.report.proofs.read_body.Given as goal

abbrev pub invariant-loop-i : goal.invariant-loop-i
invariant-loop-i l = l.items ≡ over l.i (findings_in l.bytes l.count) blank_items
