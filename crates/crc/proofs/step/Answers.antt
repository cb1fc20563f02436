-- `crc::step` meets its contract: the byte is added to the register's high half, and that moves up at once. The search leaves it open. Assumes nothing.
use Rattle.std.proofs.Common.{◌≡◌, ℕ, ◌*◌, ◌%◌, sym, ap, ◌∙◌, arith}
use Rattle.std.specs.Int.Bits.{bit_xor, xor_lt}
use Rattle.crc.specs.Crc.{byte_in}
use Rattle.crc.proofs.Fold.{folded, one, one-once}
use Rattle.crc.proofs.step.Goals as goal

pub returns : goal.returns
unfolding byte_in one folded
returns c =
    let r : ℕ = c.args.crc in
    let b : ℕ = c.args.byte in
    let e : b * 256 % 65536 ≡ b * 256 = omega arith in
    rw c.from.ensures (ap (λ (x : ℕ). one (bit_xor r x)) e ∙ sym (one-once (bit_xor r (b * 256)) (xor_lt 16 r (b * 256) (omega arith) (omega arith))))
