-- Document 02, 2026-07: a time of a DDR4 image is units of 125 ps and a fine byte of -128 to 127 ps. Units 7 with 0xD6 make
-- 7 * 125 - 42 = 833. Assumes nothing.
use Rattle.std.specs.Prelude.{ℕ, ◌+◌, ◌*◌, ◌/◌, ◌%◌, ℤ, pos, negsuc, ◌+ℤ◌, ◌-ℤ◌, ltb}
use Rattle.reading.specs.Pick.{pick}
use Rattle.reading.specs.View.{View}

-- the fine byte as a signed number: from 128 on it stands for 256 less, so that 0xD6, 214, is -42
abbrev pub fine_of : ℕ → ℤ
fine_of byte = pick (ltb byte 128) (pos byte) (pos byte -ℤ pos 256)

-- in picoseconds
abbrev pub time_of : (units fine : ℕ) → ℤ
time_of units fine = pos (125 * units) +ℤ fine_of fine

-- units in the byte at one offset, and the fine byte at another
abbrev pub time_at : (units fine : ℕ) → View → ℤ
time_at units fine v = time_of (v.byte units) (v.byte fine)

abbrev pub tck_at : View → ℤ
tck_at = time_at 18 125

abbrev pub taa_at : View → ℤ
taa_at = time_at 24 123

abbrev pub trcd_at : View → ℤ
trcd_at = time_at 25 122

abbrev pub trp_at : View → ℤ
trp_at = time_at 26 121

-- the low half of byte 27 stands above byte 28, for tRAS, which has no fine byte, and its high half above byte 29, for tRC
abbrev pub tras_at : View → ℕ
tras_at v = 125 * (v.byte 28 + 256 * (v.byte 27 % 16))

abbrev pub trc_at : View → ℤ
trc_at v = time_of (v.byte 29 + 256 * (v.byte 27 / 16)) (v.byte 120)

-- the picoseconds of a time that is not below zero
abbrev pub whole_of : ℤ → ℕ
whole_of (pos n) = n
whole_of (negsuc n) = 0
