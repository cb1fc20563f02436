-- The laws of the CRC. Assumes nothing.
use Prim.Native.Nat.{ℕ, zero, suc, ◌*◌, ◌/◌, ◌%◌}
use mathlib.Core.Path.{◌≡◌, refl, ap, ◌∙◌}
use mathlib.Core.List.{List, [], ◌∷◌, ◌++◌}
use native.Mathlib.Omega.{arith}
use lib.ListN.{length}
use lib.Bits.{bit_xor}
use Rattle.crc.specs.Crc.{shifted, shifts, byte_in, crc_from, crc_of, xor_of}
use Rattle.crc.proofs.Linear.{medial, Linear, lin-sum, lin-times, lin-shl, lin-bit}

-- ---- LINEAR: of byte strings of one length, the CRC of the exclusive or is the exclusive or of the CRCs

shifted-linear : Linear shifted
unfolding shifted
shifted-linear = lin-sum (λ r. r * 2 % 65536) (λ r. r / 32768 % 2 * 0x1021) (lin-shl 1 16) (lin-bit 15 0x1021)

pub shifts-linear : (n : ℕ) → Linear (shifts n)
shifts-linear zero a b = refl
shifts-linear (suc n) a b = ap (shifts n) (shifted-linear a b) ∙ shifts-linear n (shifted a) (shifted b)

byte-xor : (r s a b : ℕ) → byte_in (bit_xor r s) (bit_xor a b) ≡ bit_xor (byte_in r a) (byte_in s b)
unfolding byte_in
byte-xor r s a b =
    ap (shifts 8) (ap (bit_xor (bit_xor r s)) (lin-times 8 a b) ∙ medial r s (a * 256) (b * 256))
    ∙ shifts-linear 8 (bit_xor r (a * 256)) (bit_xor s (b * 256))

from-xor : (r s : ℕ) (x y : List ℕ) → length x ≡ length y → crc_from (bit_xor r s) (xor_of x y) ≡ bit_xor (crc_from r x) (crc_from s y)
from-xor r s [] [] h = refl
from-xor r s [] (b ∷ y) h = absurd (omega arith)
from-xor r s (a ∷ x) [] h = absurd (omega arith)
from-xor r s (a ∷ x) (b ∷ y) h =
    ap (λ (n : ℕ). crc_from n (xor_of x y)) (byte-xor r s a b) ∙ from-xor (byte_in r a) (byte_in s b) x y (omega arith)

pub crc-xor : (x y : List ℕ) → length x ≡ length y → crc_of (xor_of x y) ≡ bit_xor (crc_of x) (crc_of y)
crc-xor x y h = from-xor 0 0 x y h

-- ---- IN PIECES: the CRC of a join goes on from that of its front

pub from-join : (r : ℕ) (x y : List ℕ) → crc_from r (x ++ y) ≡ crc_from (crc_from r x) y
from-join r [] y = refl
from-join r (a ∷ x) y = from-join (byte_in r a) x y

pub crc-join : (x y : List ℕ) → crc_of (x ++ y) ≡ crc_from (crc_of x) y
crc-join x y = from-join 0 x y
