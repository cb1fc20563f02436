-- Document 01, "Timings" and "Data rate". Assumes nothing.
use Rattle.std.specs.Prelude.{ℕ, ◌+◌, ◌*◌, ◌/◌, List, [], ◌∷◌, eqb, take, Ok, Err}
use Rattle.reading.specs.Pick.{pick}
use Rattle.reading.specs.View.{View, view}
use Rattle.reading.specs.Refusal.{Answer}
use Rattle.reading.specs.Ranges.{missing_at, whole, reach_of}
use Rattle.decoders.specs.Cas.{cas_of}
use Rattle.decoders.specs.declared.timing.Picoseconds.{Picoseconds}
use Rattle.decoders.specs.declared.timing.TimingPair.{TimingPair}
use Rattle.decoders.specs.declared.timing.CasLatencies.{CasLatencies}
use Rattle.decoders.specs.declared.timing.Timings.{Timings}

-- document 02, 2026-01: bytes 20 to 28, 30 to 47 and 70 to 93 are read; each range by its start and its number of bytes
abbrev pub timing_ranges : List (ℕ × ℕ)
timing_ranges = (20, 9) ∷ (30, 18) ∷ (70, 24) ∷ []

-- a 16-bit value, low byte first
unfoldable pub le16_at : View → ℕ → ℕ
le16_at v at = v.byte at + v.byte (at + 1) * 256

-- a time stored in picoseconds, and one stored in nanoseconds, kept times 1000
abbrev pub ps_at : View → ℕ → Picoseconds
ps_at v at = record { 0 = le16_at v at }

abbrev pub ns_at : View → ℕ → Picoseconds
ns_at v at = record { 0 = le16_at v at * 1000 }

-- a time, then a clock byte
unfoldable pub pair_at : View → ℕ → TimingPair
pair_at v at = record { time = ps_at v at; clocks = record { 0 = v.byte (at + 2) } }

-- five bytes
unfoldable pub cas_at : View → ℕ → CasLatencies
cas_at v at = cas_of (v.byte at) (v.byte (at + 1)) (v.byte (at + 2)) (v.byte (at + 3)) (v.byte (at + 4))

-- the record
abbrev pub times_at : View → Timings
times_at v =
    record {
      tckavg_min = ps_at v 20;
      tckavg_max = ps_at v 22;
      supported_cas_latencies = cas_at v 24;
      taa = ps_at v 30;
      trcd = ps_at v 32;
      trp = ps_at v 34;
      tras = ps_at v 36;
      trc = ps_at v 38;
      twr = ps_at v 40;
      trfc1 = ns_at v 42;
      trfc2 = ns_at v 44;
      trfcsb = ns_at v 46;
      trrd_l = pair_at v 70;
      tccd_l = pair_at v 73;
      tccd_l_wr = pair_at v 76;
      tccd_l_wr2 = pair_at v 79;
      tfaw = pair_at v 82;
      twtr_l = pair_at v 85;
      twtr_s = pair_at v 88;
      trtp = pair_at v 91;
    }

-- refused only where one of the bytes is missing
abbrev pub timings_at : View → Answer Timings
timings_at v = whole Err (missing_at timing_ranges v) (Ok (times_at v))

unfoldable pub timings_of : List ℕ → Answer Timings
timings_of s = timings_at (view s)

-- the bytes that the record is read from, up to the last of them
unfoldable pub timing_bytes_of : List ℕ → Answer (List ℕ)
timing_bytes_of s = whole Err (missing_at timing_ranges (view s)) (Ok (take (reach_of timing_ranges) s))

-- the data rate of a cycle time, each division rounded down
abbrev pub rate_of : ℕ → ℕ
rate_of tck = pick (eqb tck 0) 0 ((2000000 / tck + 50) / 100 * 100)
