-- `roostcord::read_report` meets its contract: the flags come first, and then the findings' numbers. The search leaves it open. Assumes nothing.
use Rattle.std.proofs.Common.{take, ap, ◌∙◌, arith, le-ltb, length, Ok}
use Rattle.roostcord.specs.Numbers.{listed_in, list_after, finding_numbers}
use Rattle.roostcord.proofs.Reports.{heard, flags_first}
use Rattle.roostcord.proofs.read_report.Goals as goal

pub shared_ref_as_front-put_findings : goal.shared_ref_as_front-put_findings
shared_ref_as_front-put_findings c = (heard c.args.report.now c.read_findings-reading.result c.read_findings-reading.ensures c.in_ok-head.head c.in_ok-head.was).few

pub returns-clause-answer : goal.returns-clause-answer
unfolding listed_in
returns-clause-answer c =
    let h = heard c.args.report.now c.read_findings-reading.result c.read_findings-reading.ensures c.in_ok-head.head c.in_ok-head.was in
    rw (le-ltb (length c.args.out.now) 91 c.if-out-lt-REPORT_PLACES.false, h.numbers) (ap Ok (omega (arith, h.long)))

pub returns-clause-later : goal.returns-clause-later
unfolding list_after
returns-clause-later c =
    let h = heard c.args.report.now c.read_findings-reading.result c.read_findings-reading.ensures c.in_ok-head.head c.in_ok-head.was in
    let out = c.args.out.now in
    let numbers = finding_numbers (take c.in_ok-head.head.count c.read_findings-reading.result.findings.items) in
    rw (le-ltb (length out) 91 c.if-out-lt-REPORT_PLACES.false, h.numbers, ← c.into.ensures) (c.put_findings.ensures ∙ flags_first c.into.result numbers out (omega arith))
