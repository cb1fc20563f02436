-- Every finding is inside document 01's report table: an image's, a rated profile's, and the package rule's of any package and die count.
-- Assumes nothing.
use Rattle.std.specs.Prelude.{Option, Some, None, Ok, Err}
use Prim.Native.Nat.{ℕ, zero, suc, ◌+◌, ◌/◌, ◌<◌, ◌≤◌}
use mathlib.Core.Path.{◌≡◌, refl}
use mathlib.Core.List.{List, [], ◌∷◌, ◌++◌, map}
use mathlib.Core.Bool.{true}
use native.Mathlib.Omega.{arith}
use native.Mathlib.Nat.{div-le_self}
use borrow.Author.Tests.{le-leb}
use lib.Dec.{eqb}
use lib.ListN.{get_or}
use Rattle.reading.specs.View.{View, view}
use Rattle.reading.specs.Refusal.{Answer}
use Rattle.reading.specs.Bytes.{AllBytes}
use Rattle.reading.specs.Ranges.{missing_at}
use Rattle.reading.proofs.Picked.{either}
use Rattle.reading.proofs.Reach.{by-missing}
use Rattle.findings.specs.Hold.{to_list, cat}
use Rattle.findings.specs.declared.Finding.{Finding}
use Rattle.decoders.specs.Codes.{bits_in}
use Rattle.decoders.specs.Identity.{identity_at}
use Rattle.decoders.specs.Timing.{timing_ranges, le16_at, times_at, timings_at, rate_of}
use Rattle.decoders.specs.declared.identity.IdentityAndBase.{IdentityAndBase}
use Rattle.decoders.specs.declared.identity.PackageType.{PackageType}
use Rattle.decoders.specs.declared.identity.IoWidth.{IoWidth}
use Rattle.decoders.specs.declared.timing.CasLatencies.{CasLatencies}
use Rattle.decoders.specs.declared.timing.Timings.{Timings}
use Rattle.rules.specs.declared.TimingOrder.{TimingOrder}
use Rattle.rules.specs.declared.TimingOrder.TheVariants.{RasGeRcd, RcGeRas}
use Rattle.rules.specs.declared.ClockTimingParam.{ClockTimingParam}
use Rattle.rules.specs.declared.ClockTimingParam.TheVariants.{Trcd, Trp}
use Rattle.rules.specs.declared.RatedTimings.{RatedTimings}
use Rattle.rules.specs.declared.Edition.{Edition}
use Rattle.rules.specs.Table.{timing_ordering_violation, non_integer_clock_timing, package_die_count_mismatch, row_of, in_table, all_in}
use Rattle.rules.specs.Regions.{first_from, region_at, region_rules}
use Rattle.rules.specs.Rules.{device_count, coherence, trc_identity, ordering, supported, cas_latency, clock_multiple, standard_rate, identity_rules, timing_rules, rated_rules, each}
use Rattle.rules.specs.Lint.{on_given, lint_rules, lint_at, findings_of, rated_findings}
use Rattle.rules.proofs.Never.{OfGiven, Decoded, decoded}

-- a rule's answer that adds nothing outside the table, and a row of such answers
abbrev Good : Option Finding → Type 0
Good None = Unit {0}
Good (Some f) = in_table f ≡ true

data Goods : List (Option Finding) → Type 0 where
  done : Goods []
  more : {x : Option Finding} {xs : List (Option Finding)} → Good x → Goods xs → Goods (x ∷ xs)

goods-in : (xs : List (Option Finding)) → Goods xs → all_in (cat xs) ≡ true
goods-in [] done = refl
goods-in (None ∷ xs) (more h hs) = goods-in xs hs
goods-in (Some f ∷ xs) (more h hs) = rw (h, goods-in xs hs)

goods-append : {xs ys : List (Option Finding)} → Goods xs → Goods ys → Goods (xs ++ ys)
goods-append done k = k
goods-append (more h hs) k = more h (goods-append hs k)

-- rules on a record, asked of what its decoder said
goods-given : {A : Type 0} (rules : List (A → Option Finding)) (s : Answer A) → OfGiven s (λ a. Goods (each rules a)) → Goods (each (map on_given rules) s)
goods-given [] s h = done
goods-given (rule ∷ rules) (Ok a) (more h hs) = more h (goods-given rules (Ok a) hs)
goods-given (rule ∷ rules) (Err t) h = more tt (goods-given rules (Err t) h)

silent : {x : Option Finding} → x ≡ None → Good x
silent e = rw e tt

-- ---- the regions: offsets are below 510, and values are bytes
module _ (s : List ℕ) (bytes : AllBytes s) where
  good-from : (i n : ℕ) → i + n ≤ 65536 → Good (first_from (view s) i n)
  unfolding in_table row_of
  good-from i zero h = tt
  good-from i (suc n) h =
      either Good (eqb (get_or s i 0) 0) (good-from (suc i) n (omega arith))
      (rw (le-leb i 65535 (omega arith), le-leb (get_or s i 0) 255 (omega (arith, bytes i))))

  good-region : (offset len : ℕ) → offset + len ≤ 65536 → Good (region_at offset len (view s))
  unfolding region_at
  good-region offset len h = grind (arith, good-from offset len h)

  good-regions : Goods (each region_rules (view s))
  good-regions =
      more (good-region 15 1 (omega arith))
      (more (good-region 29 1 (omega arith))
      (more (good-region 103 25 (omega arith))
      (more (good-region 128 64 (omega arith))
      (more (good-region 214 16 (omega arith))
      (more (good-region 236 4 (omega arith))
      (more (good-region 448 62 (omega arith)) done))))))

-- ---- the identity: widths come from the tables
io-few : (w : IoWidth) → bits_in w ≤ 32
io-few w = grind arith

good-count : (bus io : ℕ) → bus ≤ 65535 → io ≤ 65535 → Good (device_count bus io)
unfolding in_table row_of
good-count bus io h k = grind arith

good-identity : (s : Answer IdentityAndBase) → OfGiven s Decoded → OfGiven s (λ d. Goods (each identity_rules d))
good-identity (Ok d) h =
    more (good-count d.primary_bus_width_bits (bits_in d.io_width) (omega arith) (omega (arith, io-few d.io_width)))
    (more (silent h.coherent) done)
good-identity (Err t) h = tt

-- ---- the timings
good-trc : (trc tras trp : ℕ) → Good (trc_identity trc tras trp)
unfolding in_table row_of
good-trc trc tras trp = grind arith

listed-order : (o : TimingOrder) (larger smaller : ℕ) → in_table (timing_ordering_violation o larger smaller) ≡ true
unfolding in_table row_of
listed-order o larger smaller = grind arith

good-order : (o : TimingOrder) (larger smaller : ℕ) → Good (ordering o larger smaller)
good-order o larger smaller = grind (arith, listed-order o larger smaller)

good-supported : (cl : ℕ) (set : CasLatencies) → cl ≤ 65535 → Good (supported (Some set) cl)
unfolding in_table row_of
good-supported cl set h = grind arith

good-cas : (taa tck : ℕ) (set : Option CasLatencies) → Good (supported set (taa / tck)) → Good (cas_latency taa tck set)
unfolding in_table row_of
good-cas taa tck set h = grind arith

listed-clock : (p : ClockTimingParam) (value tck : ℕ) → in_table (non_integer_clock_timing p value tck) ≡ true
unfolding in_table row_of
listed-clock p value tck = grind arith

good-clock : (p : ClockTimingParam) (value tck : ℕ) → Good (clock_multiple p value tck)
good-clock p value tck = grind (arith, listed-clock p value tck)

good-rate : (e : Edition) (rate : ℕ) → Good (standard_rate e rate)
unfolding in_table row_of
good-rate e rate = grind arith

good-timings : (e : Edition) (t : Timings) → t.taa.0 ≤ 65535 → Goods (each (timing_rules e) t)
good-timings e t h =
    more (good-trc t.trc.0 t.tras.0 t.trp.0)
    (more (good-order RasGeRcd t.tras.0 t.trcd.0)
    (more (good-order RcGeRas t.trc.0 t.tras.0)
    (more (good-cas t.taa.0 t.tckavg_min.0 (Some t.supported_cas_latencies) (good-supported (t.taa.0 / t.tckavg_min.0) t.supported_cas_latencies (omega (arith, div-le_self t.taa.0 t.tckavg_min.0))))
    (more (good-clock Trcd t.trcd.0 t.tckavg_min.0)
    (more (good-clock Trp t.trp.0 t.tckavg_min.0)
    (more (good-rate e (rate_of t.tckavg_min.0)) done))))))

given-timings : (e : Edition) (v : View) → le16_at v 30 ≤ 65535 → OfGiven (timings_at v) (λ t. Goods (each (timing_rules e) t))
given-timings e v h = by-missing (missing_at timing_ranges v) (λ m. rw m (good-timings e (times_at v) h)) (λ i m. rw m tt)

-- two bytes make a number of at most 65,535
short : (v : View) (at : ℕ) → v.byte at < 256 → v.byte (at + 1) < 256 → le16_at v at ≤ 65535
unfolding le16_at
short v at h k = omega arith

-- ---- all sixteen rules
pub inside : (e : Edition) (s : List ℕ) → AllBytes s → all_in (findings_of e s) ≡ true
unfolding lint_at
inside e s bytes =
    let v = view s in
    let taa = short v 30 (bytes 30) (bytes 31) in
    goods-in (each (lint_rules e) v)
    (goods-append (good-regions s bytes)
    (goods-append
    (goods-given identity_rules (identity_at v) (good-identity (identity_at v) (decoded v)))
    (goods-given (timing_rules e) (timings_at v) (given-timings e v taa))))

-- ---- the package rule, which a decoded image never breaks, of any package and any die count that a byte holds
listed-package : (p : PackageType) (dies : ℕ) → dies ≤ 255 → in_table (package_die_count_mismatch p dies) ≡ true
unfolding in_table row_of
listed-package p dies h = grind arith

good-package : (p : PackageType) (dies : ℕ) → dies ≤ 255 → Good (coherence p dies)
good-package p dies h = grind (arith, listed-package p dies h)

good-in : (x : Option Finding) → Good x → all_in (to_list x) ≡ true
good-in x h = grind arith

pub package-inside : (p : PackageType) (dies : ℕ) → dies ≤ 255 → all_in (to_list (coherence p dies)) ≡ true
package-inside p dies h = good-in (coherence p dies) (good-package p dies h)

-- ---- a rated profile, of any numbers: its set is not known, so no CL is asked for
pub rated-inside : (e : Edition) (r : RatedTimings) → all_in (rated_findings e r) ≡ true
unfolding rated_findings
rated-inside e r =
    goods-in (each (rated_rules e) r)
    (more (good-order RasGeRcd r.tras.0 r.trcd.0)
    (more (good-cas r.taa.0 r.cycle_time.0 None tt)
    (more (good-clock Trcd r.trcd.0 r.cycle_time.0)
    (more (good-clock Trp r.trp.0 r.cycle_time.0)
    (more (good-rate e r.data_rate_mt_s) done)))))
