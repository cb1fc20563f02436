-- Document 02, 2026-01: which byte is missing. What a decoder reads is a list of ranges, each by its start and its number of bytes; the
-- smallest offset of them that the image lacks is the one that the bench is told. Assumes nothing.
use Rattle.std.specs.Prelude.{ℕ, zero, suc, ◌+◌, ◌-◌, min, max, ◌≡◌, List, [], ◌∷◌, Bool, true, false, leb, ltb, Option, Some, None, zip}
use Rattle.reading.specs.Pick.{pick, and}
use Rattle.reading.specs.declared.Refusal.TheVariants.{Truncated}
use Rattle.reading.specs.View.{View}
use Rattle.reading.specs.declared.Refusal.{Refusal}

-- the ranges that stand in a table of starts and one of lengths, as many as the shorter has places
abbrev pub ranges_of : (starts lengths : List ℕ) → List (ℕ × ℕ)
ranges_of starts lengths = zip starts lengths

-- an offset lies in a range, and in one of several
abbrev pub in_range : (start n i : ℕ) → Bool
in_range start n i = and (leb start i) (ltb i (start + n))

abbrev pub reads : List (ℕ × ℕ) → ℕ → Bool
reads [] i = false
reads ((start, n) ∷ ranges) i = pick (in_range start n i) true (reads ranges i)

-- the first of the n offsets from i on that the image lacks
abbrev pub first_lacking : View → ℕ → ℕ → Option ℕ
first_lacking v i zero = None
first_lacking v i (suc n) = pick (v.below (suc i)) (Some i) (first_lacking v (suc i) n)

-- the smaller of two, where there are two
abbrev pub smaller : Option ℕ → Option ℕ → Option ℕ
smaller None b = b
smaller (Some i) None = Some i
smaller (Some i) (Some j) = Some (min i j)

-- the smallest that is read and that the image lacks
unfoldable pub missing_at : List (ℕ × ℕ) → View → Option ℕ
missing_at [] v = None
missing_at ((start, n) ∷ ranges) v = smaller (first_lacking v start n) (missing_at ranges v)

-- refusal 1 with the offset that is missing, 0 where none is
abbrev pub truncated_by : Option ℕ → Refusal
truncated_by (Some i) = Truncated i
truncated_by None = Truncated 0

-- goes on where nothing is missing, and else stops at that refusal
abbrev pub whole : {X : Type 0} → (Refusal → X) → Option ℕ → X → X
whole stop (Some i) x = stop (truncated_by (Some i))
whole stop None x = x

-- how many bytes an image has that lacks none: up to the last that is read
abbrev pub reach_of : List (ℕ × ℕ) → ℕ
reach_of [] = 0
reach_of ((start, zero) ∷ ranges) = reach_of ranges
reach_of ((start, suc n) ∷ ranges) = max (start + suc n) (reach_of ranges)

-- the view of the bytes that are read alone: no other is missing, and every other is 0; an image is below n where it lacks the byte at n - 1
abbrev pub mask : List (ℕ × ℕ) → View → View
mask ranges v = record { below = λ n. pick (reads ranges (n - 1)) (v.below n) false; byte = λ i. pick (reads ranges i) (v.byte i) 0 }

-- d asks for nothing but the bytes in the ranges
abbrev pub Only : {X : Type 0} → List (ℕ × ℕ) → (View → X) → Type 0
Only ranges d = (v : View) → d v ≡ d (mask ranges v)
