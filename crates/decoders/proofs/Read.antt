-- The timings of an image are those of the bytes that are read from it, and it has none where it does not have the bytes. Assumes nothing.
use mathlib.Core.Path.{◌≡◌, ap, sym}
use mathlib.Core.List.{List}
use Prim.Native.Nat.{ℕ}
use Rattle.std.specs.Prelude.{Ok, Err}
use Rattle.reading.specs.View.{view}
use Rattle.reading.specs.Ranges.{missing_at, reach_of}
use Rattle.reading.specs.Refusal.{onward}
use Rattle.reading.proofs.Reach.{by-missing}
use Rattle.reading.proofs.Clip.{within}
use Rattle.decoders.specs.Timing.{timing_ranges, times_at, timing_bytes_of, timings_of}
use Rattle.decoders.proofs.Reach.{times-reach}

pub in_bytes : (s : List ℕ) → timings_of s ≡ onward Err (timing_bytes_of s) (λ bytes. Ok (times_at (view bytes)))
unfolding timings_of timing_bytes_of
in_bytes s = by-missing (missing_at timing_ranges (view s))
    (λ e. rw e (ap Ok (sym (within times_at (reach_of timing_ranges) times-reach s))))
    (λ i e. rw e)
