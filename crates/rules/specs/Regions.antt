-- Document 01, rule 1: the reserved regions. One finding a region, at its first nonzero byte, exactly when the region lies wholly inside the
-- image and has such a byte. Assumes nothing.
use Rattle.std.specs.Prelude.{ℕ, zero, suc, List, [], ◌∷◌, eqb, map, Option, Some, None}
use Rattle.reading.specs.Pick.{pick}
use Rattle.reading.specs.View.{View}
use Rattle.reading.specs.Bytes.{inside_at}
use Rattle.findings.specs.declared.Finding.{Finding}
use Rattle.rules.specs.Table.{reserved_bytes_nonzero}

-- the seven regions: where each starts, and how many bytes it has
abbrev pub regions : List (ℕ × ℕ)
regions = (15, 1) ∷ (29, 1) ∷ (103, 25) ∷ (128, 64) ∷ (214, 16) ∷ (236, 4) ∷ (448, 62) ∷ []

-- the first of the n bytes from i on that is not zero
abbrev pub first_from : View → ℕ → ℕ → Option Finding
first_from v i zero = None
first_from v i (suc n) = pick (eqb (v.byte i) 0) (first_from v (suc i) n) (Some (reserved_bytes_nonzero i (v.byte i)))

unfoldable pub region_at : (offset len : ℕ) → View → Option Finding
region_at offset len v = pick (inside_at v offset len) (first_from v offset len) None

-- the rules on the regions, in order
abbrev pub region_rules : List (View → Option Finding)
region_rules = map (λ region. region_at region.0 region.1) regions
