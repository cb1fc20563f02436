-- How a record's numbers are read, and how they are held against ours. Assumes nothing.
use Rattle.std.specs.Prelude.{ℕ, zero, suc, ◌+◌, ◌*◌, false, List, [], ◌∷◌, eqb, ltb}
use Rattle.reading.specs.Pick.{pick}
use Rattle.reading.specs.View.{View, view}
use Rattle.replay.specs.declared.Cursor.{Cursor}
use Rattle.replay.specs.declared.Comparison.{Comparison}

-- values of 16 and 32 bits, low byte first
abbrev pub le16_in : View → ℕ → ℕ
le16_in v at = v.byte at + 256 * v.byte (at + 1)

abbrev pub le32_in : View → ℕ → ℕ
le32_in v at = le16_in v at + 65536 * le16_in v (at + 2)

-- a number: one byte below 254, or 254 and 16 bits, or 255 and 32 bits
unfoldable pub packed_in : View → ℕ → ℕ
packed_in v at = pick (ltb (v.byte at) 254) (v.byte at) (pick (eqb (v.byte at) 254) (le16_in v (at + 1)) (le32_in v (at + 1)))

-- the place behind it
unfoldable pub behind : View → ℕ → ℕ
behind v at = pick (ltb (v.byte at) 254) (at + 1) (pick (eqb (v.byte at) 254) (at + 3) (at + 5))

-- the cursor behind the next number, which is held against n: a number that differs is never forgotten
unfoldable pub held : View → Cursor → ℕ → Cursor
held v c n =
    pick (ltb 65535 c.at) (record { at = c.at; same = false })
    (record { at = behind v c.at; same = pick (eqb (packed_in v c.at) n) c.same false })

-- the same for a list of numbers, one behind the other
abbrev pub held_all : View → Cursor → List ℕ → Cursor
held_all v c [] = c
held_all v c (n ∷ ns) = held_all v (held v c n) ns

-- the same for a record with its cursor
abbrev pub compared : Comparison → List ℕ → Comparison
compared c ours = record { bytes = c.bytes; cursor = held_all (view c.bytes.now) c.cursor ours }

-- the numbers that stand from a place on, so many of them
abbrev pub numbers_from : View → (at count : ℕ) → List ℕ
numbers_from v at zero = []
numbers_from v at (suc count) = packed_in v at ∷ numbers_from v (behind v at) count
