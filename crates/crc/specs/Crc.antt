-- Document 02, 2026-03: the CRC of JESD400-5, bit by bit. Polynomial 0x1021, start 0, high bit first. Assumes nothing.
use Rattle.std.specs.Prelude.{ℕ, zero, suc, ◌*◌, ◌/◌, ◌%◌, List, [], ◌∷◌}
use Rattle.std.specs.Int.Bits.{bit_xor}

-- the register of sixteen bits moves up by one; where bit 15 is 1, which leaves it, 0x1021 is added without carries
unfoldable pub shifted : ℕ → ℕ
shifted r = bit_xor (r * 2 % 65536) (r / 32768 % 2 * 0x1021)

-- so many times
abbrev pub shifts : ℕ → ℕ → ℕ
shifts zero r = r
shifts (suc n) r = shifts n (shifted r)

-- a byte enters: it is added to the high half, and the register moves up eight times
unfoldable pub byte_in : ℕ → ℕ → ℕ
byte_in r b = shifts 8 (bit_xor r (b * 256))

-- bytes enter one after the other
abbrev pub crc_from : ℕ → List ℕ → ℕ
crc_from r [] = r
crc_from r (b ∷ bytes) = crc_from (byte_in r b) bytes

abbrev pub crc_of : List ℕ → ℕ
crc_of bytes = crc_from 0 bytes

-- the exclusive-or of two byte strings, byte by byte
abbrev pub xor_of : List ℕ → List ℕ → List ℕ
xor_of [] t = []
xor_of (a ∷ s) [] = []
xor_of (a ∷ s) (b ∷ t) = bit_xor a b ∷ xor_of s t
