-- The identity is its three parts, one after the other. Assumes nothing.
use Rattle.std.specs.Prelude.{Ok, Err}
use Prim.Native.Nat.{ℕ}
use mathlib.Core.Path.{◌≡◌}
use mathlib.Core.List.{List}
use Rattle.reading.specs.View.{view}
use Rattle.reading.proofs.Reach.{by-missing}
use Rattle.reading.specs.Ranges.{missing_at}
use Rattle.reading.specs.Refusal.{onward}
use Rattle.reading.proofs.Refused.{onward-onward}
use Rattle.decoders.specs.Identity.{identity_ranges, identity_bytes_of, base_of, sdram_of, organization_of, whole_of, identity_of}

pub in_parts : (s : List ℕ) → identity_of s ≡
    onward Err (identity_bytes_of s) (λ b.
    onward Err (base_of b) (λ p.
    onward Err (sdram_of b) (λ d.
    onward Err (organization_of b) (λ o.
    Ok (whole_of p d o)))))
unfolding identity_of identity_bytes_of base_of sdram_of organization_of
in_parts s = by-missing (missing_at identity_ranges (view s))
    (λ e. rw e (simp onward-onward))
    (λ i e. rw e)
