-- The data rate behind a record's other numbers. Assumes nothing.
use Rattle.std.proofs.Common.{◌≡◌, ◌≤◌, ℕ, List, length, take, slice_set, arith}
use Rattle.reading.specs.Lent.{laid}
use Rattle.reading.proofs.Laid.{laid_next}
use Rattle.decoders.specs.Timing.{rate_of}
use Rattle.decoders.specs.declared.timing.Timings.{Timings}
use Rattle.roostcord.specs.Numbers.{timing_numbers}
use Rattle.roostcord.specs.Parts.{first_timing_numbers}

pub rate_laid : (t : Timings) (out : List ℕ) → 30 ≤ length out
    → slice_set (laid (first_timing_numbers t) out) 29 (rate_of t.tckavg_min.0) ≡ laid (timing_numbers t) out
unfolding first_timing_numbers
rate_laid t out h = laid_next (take 29 (timing_numbers t)) out (rate_of t.tckavg_min.0) (omega arith)
