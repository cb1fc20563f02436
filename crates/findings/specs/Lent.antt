-- How many findings go into a lent list, and what is read from one. Assumes nothing.
use Rattle.std.specs.Prelude.{ℕ, List, ltb, length, take}
use Rattle.reading.specs.Pick.{pick}
use Rattle.reading.specs.Lent.{laid}
use Rattle.findings.specs.Hold.{blank_items}
use Rattle.findings.specs.declared.Finding.{Finding}
use Rattle.findings.specs.declared.Findings.{Findings}

-- the smaller of two numbers
unfoldable pub least : ℕ → ℕ → ℕ
least a b = pick (ltb a b) a b

-- how many places of a list of len are written: none where it has fewer than need, and else the smallest of count, 15 and len
unfoldable pub places_of : ℕ → ℕ → ℕ → ℕ
places_of len need count = pick (ltb len need) 0 (least count (least 15 len))

-- how many of len findings are read: all of them, and none where they are more than 15
unfoldable pub load_count : ℕ → ℕ
load_count len = pick (ltb len 16) len 0

-- a lent list by value: what is read of it over blank places, beside its length
abbrev pub loaded_of : List Finding → Findings
loaded_of ys = record { items = laid (take (load_count (length ys)) ys) blank_items; count = length ys }
