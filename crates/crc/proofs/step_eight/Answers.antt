-- `crc::step_eight` meets its contract: register and bytes are one number, and all of it moves up at once. The search leaves it open. Assumes nothing.
use Rattle.std.proofs.Common.{ℕ, sym, arith}
use Rattle.std.proofs.Math.Pow.{shl_exact}
use Rattle.crc.proofs.Fold.{folded, line1, line2, line3, line4, eight, eight-once}
use Rattle.crc.proofs.step_eight.Goals as goal

pub returns : goal.returns
unfolding eight line1 line2 line3 line4 folded
returns c =
    let r : ℕ = c.args.crc in
    rw (c.from.ensures, c.from_be_bytes.ensures, shl_exact {a = r} 16 48 64 (omega arith) (omega arith)) (sym (eight-once r c.args.eight.now (omega arith) c.told-eight c.fits-eight))
