-- `report::read_body` meets its contract: each turn reads one finding more. The search leaves it open. Assumes nothing.
use Rattle.std.proofs.Common.{◌≡◌, ◌<◌, ◌/◌, length, take, arith, length-take-le}
use Rattle.std.proofs.lemmas.List.{get_or-take}
use Rattle.report.specs.Form.{finding_size, findings_in}
use Rattle.report.proofs.Turns.{next-kept, all-kept, length-findings}
use Rattle.report.proofs.read_body.Goals as goal

pub loop-i-preserved : goal.loop-i-preserved
loop-i-preserved c =
    let t = c.args.bytes.now in
    let n = c.args.count in
    let i = c.loop-i.i in
    let size : length (take n c.as_chunks.result.0.now) ≡ n = length-take-le n c.as_chunks.result.0.now (omega (arith, c.as_chunks.ensures.front_len)) in
    let below : i < n = omega (arith, c.loop-i-test.true) in
    rw (c.read_finding.ensures, c.loop-i.invariant, get_or-take n c.as_chunks.result.0.now i _ below, c.as_chunks.ensures.front)
    (next-kept n (length t / finding_size) t i _ (omega arith) below (omega arith))

pub returns : goal.returns
returns c =
    let n = c.args.count in
    let size : length (take n c.as_chunks.result.0.now) ≡ n = length-take-le n c.as_chunks.result.0.now (omega (arith, c.as_chunks.ensures.front_len)) in
    let all : c.loop-i.i ≡ n = omega arith in
    rw (c.loop-i.invariant, all) (all-kept (findings_in c.args.bytes.now n) n (length-findings n c.args.bytes.now) (omega arith))
