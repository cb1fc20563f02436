-- `roostcord::numbers::put_findings` meets its contract: each turn lays one finding more. The search leaves it open. Assumes nothing.
use Rattle.std.proofs.Common.{◌≡◌, ◌+◌, [], ◌∷◌, ◌++◌, length, take, get_or, sym, append-nil, arith, add-one, take-suc, length-take-le}
use Rattle.findings.specs.Hold.{blank_finding}
use Rattle.roostcord.proofs.Reports.{numbers-on, front-laid}
use Rattle.roostcord.proofs.numbers.put_findings.Goals as goal

pub loop-i-init : goal.loop-i-init
loop-i-init c = rw append-nil (sym (front-laid c.args.from c.args.out.now))

pub loop-i-preserved : goal.loop-i-preserved
loop-i-preserved c =
    let l = c.loop-i in
    let found = c.args.findings.now in
    let f = get_or found l.i blank_finding in
    let more : take (l.i + 1) found ≡ take l.i found ++ (f ∷ []) = rw add-one (take-suc found l.i blank_finding (omega arith)) in
    let so-far : l.i ≡ length (take l.i found) = sym (length-take-le l.i found (omega arith)) in
    rw (c.copy_from_slice.ensures.after, c.numbers.ensures, l.invariant, more) (numbers-on (take l.i found) f c.args.from c.args.out.now l.i so-far (omega arith))
