-- What reading answers of an image. Assumes nothing.
use Rattle.std.specs.Prelude.{ℕ, ◌+◌, ◌<◌, List, [], Bool, not, take, drop, get_or, Option, Some, None}
use Rattle.reading.specs.Pick.{pick}
use Rattle.reading.specs.View.{View, view}

-- every element is a byte: of a lent slice of bytes this always holds, and only theorems on definitions ask it
abbrev pub AllBytes : List ℕ → Type 0
AllBytes s = (i : ℕ) → get_or s i 0 < 256

-- the byte at an offset, absent where the image ends before it
abbrev pub byte_at : View → ℕ → Option ℕ
byte_at v offset = pick (v.below (offset + 1)) None (Some (v.byte offset))

-- the region lies wholly inside the image: its end, as a number of any size, is not past the image's
abbrev pub inside_at : View → ℕ → ℕ → Bool
inside_at v offset len = not (v.below (offset + len))

-- the region's bytes, and none where it is not wholly inside
abbrev pub region_of : List ℕ → ℕ → ℕ → List ℕ
region_of s offset len = pick (inside_at (view s) offset len) (take len (drop offset s)) []
