-- A region as it is scanned: over the part of the image that it is. Only private functions promise in these terms. Assumes nothing.
use Rattle.std.specs.Prelude.{ℕ, ◌+◌, List, length, Bool, not, ◌==◌, nat_lt, if◌then◌else◌, Option, None, option_map, position, slice_index, slice_range}
use Rattle.findings.specs.declared.Finding.{Finding}
use Rattle.rules.specs.Table.{reserved_bytes_nonzero}

abbrev pub is_nonzero : ℕ → Bool
is_nonzero byte = not (byte == 0)

unfoldable pub scanned : (offset len : ℕ) → List ℕ → Option Finding
scanned offset len s =
    if nat_lt (length s) (offset + len) then None
    else
    (let bytes = slice_range s offset (offset + len) in
    option_map (λ i. reserved_bytes_nonzero (offset + i) (slice_index bytes i)) (position is_nonzero bytes))
