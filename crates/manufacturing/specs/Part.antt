-- Document 02, 2026-02: the part number, bytes 521 to 550 without the spaces that end them. Assumes nothing.
use Rattle.std.specs.Prelude.{ℕ, ◌+◌, ◌≡◌, Option, Some, None, List, [], ◌∷◌, ◌++◌, length, replicate, eqb}
use Rattle.reading.specs.Pick.{pick}
use Rattle.reading.specs.View.{View, view}
use Rattle.reading.specs.Made.{firsts}
use Rattle.reading.specs.Ranges.{missing_at, whole}
use Rattle.manufacturing.specs.Block.{manufacturing_ranges}
use Rattle.manufacturing.specs.declared.PartNumber.{PartNumber}

-- a byte before bytes that are trimmed already: a space that nothing follows is left out
abbrev pub before : ℕ → List ℕ → List ℕ
before b [] = pick (eqb b 0x20) [] (b ∷ [])
before b (x ∷ l) = b ∷ x ∷ l

-- without the spaces that end the list
unfoldable pub trimmed : List ℕ → List ℕ
trimmed [] = []
trimmed (b ∷ l) = before b (trimmed l)

-- the thirty bytes
unfoldable pub field_at : View → List ℕ
field_at v = firsts 30 (λ i. v.byte (521 + i))

-- the part number, and nothing where a byte of the block is missing
abbrev pub part_at : View → List ℕ
part_at v = whole (λ t. []) (missing_at manufacturing_ranges v) (trimmed (field_at v))

unfoldable pub part_of : List ℕ → List ℕ
part_of s = part_at (view s)

-- by value: all thirty bytes, and how many of them are the part number
abbrev pub part_kept_at : View → PartNumber
part_kept_at v =
    whole (λ t. record { bytes = replicate 30 0; len = 0 }) (missing_at manufacturing_ranges v)
    (record { bytes = field_at v; len = length (trimmed (field_at v)) })

unfoldable pub part_kept_of : List ℕ → PartNumber
part_kept_of s = part_kept_at (view s)

-- t is the bytes l without the spaces that end them: what they have past t is spaces, and t does not end in one
pub record IsTrimmed (l t : List ℕ) : Type 0 where
  pub spaces : ℕ
  pub all : l ≡ t ++ replicate spaces 0x20
  pub ends : (p : List ℕ) → t ≡ p ++ (0x20 ∷ []) → ⊥

-- the thirty bytes, where no byte of the block is missing; a private function alone promises in these terms
unfoldable pub field_of : List ℕ → Option (List ℕ)
field_of s = whole (λ t. None) (missing_at manufacturing_ranges (view s)) (Some (field_at (view s)))
