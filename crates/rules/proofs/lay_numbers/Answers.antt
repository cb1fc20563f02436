-- `rules::lay_numbers` meets its contract: each turn lays one finding more. The search leaves it open. Assumes nothing.
use Rattle.std.proofs.Common.{◌≡◌, ◌+◌, ◌≤◌, [], ◌∷◌, ◌++◌, length, take, get_or, sym, arith, add-one, take-suc, length-take-le}
use Rattle.findings.specs.Hold.{blank_finding}
use Rattle.rules.specs.Lanes.{small_of, numbers_of}
use Rattle.rules.proofs.Lanes.{lane-on}
use Rattle.rules.proofs.lay_numbers.Goals as goal

pub loop-i-preserved : goal.loop-i-preserved
loop-i-preserved c =
    let l = c.loop-i in
    let found = c.args.found.now in
    let f = get_or found l.i blank_finding in
    let inside : l.i + 1 ≤ length found = omega arith in
    let more : take (l.i + 1) found ≡ take l.i found ++ (f ∷ []) = rw add-one (take-suc found l.i blank_finding (omega arith)) in
    let so-far : l.i ≡ length (take l.i found) = sym (length-take-le l.i found (omega arith)) in (
      rw (c.copy_from_slice.ensures.after, c.number.ensures, l.invariant.0, more) (lane-on small_of (take l.i found) f c.args.heads.now l.i so-far),
      rw (c.copy_from_slice-in-loop-i.ensures.after, l.invariant.1, more) (lane-on numbers_of (take l.i found) f c.args.numbers.now l.i so-far),
    )
