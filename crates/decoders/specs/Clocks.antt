-- Document 02, 2026-06: a time in clocks is (time * 997 / tCK + 1000) / 1000, each division rounded down. Assumes nothing.
use Rattle.std.specs.Prelude.{ℕ, ◌+◌, ◌*◌, ◌/◌, ◌%◌, ◌≤◌, eqb, Ok, Err}
use Rattle.reading.specs.Pick.{pick}
use Rattle.reading.specs.declared.Refusal.TheVariants.{ZeroClock}
use Rattle.reading.specs.Refusal.{Answer}
use Rattle.decoders.specs.declared.timing.Timings.{Timings}
use Rattle.decoders.specs.declared.clocks.ClockTable.{ClockTable}

abbrev pub clocks_of : (tck time : ℕ) → ℕ
clocks_of tck time = (time * 997 / tck + 1000) / 1000

-- of the nine times; refusal 7 with tCK 0
unfoldable pub clock_table_of : Timings → Answer ClockTable
clock_table_of t =
    pick (eqb t.tckavg_min.0 0) (Err ZeroClock)
    (Ok (record {
      taa = clocks_of t.tckavg_min.0 t.taa.0;
      trcd = clocks_of t.tckavg_min.0 t.trcd.0;
      trp = clocks_of t.tckavg_min.0 t.trp.0;
      tras = clocks_of t.tckavg_min.0 t.tras.0;
      trc = clocks_of t.tckavg_min.0 t.trc.0;
      twr = clocks_of t.tckavg_min.0 t.twr.0;
      trfc1 = clocks_of t.tckavg_min.0 t.trfc1.0;
      trfc2 = clocks_of t.tckavg_min.0 t.trfc2.0;
      trfcsb = clocks_of t.tckavg_min.0 t.trfcsb.0;
    }))

-- What document 01 said before, kept to hold the count above against it (proofs/Least.antt): the smallest n with n * tCK at or above the time.
pub record Smallest (tck time n : ℕ) : Type 0 where
  pub reaches : time ≤ n * tck
  pub least : (m : ℕ) → time ≤ m * tck → n ≤ m

-- that n: the whole cycles that fit in the time, and one more where they fall short of it
abbrev pub smallest_of : (tck time : ℕ) → ℕ
smallest_of tck time = time / tck + pick (eqb (time % tck) 0) 0 1
