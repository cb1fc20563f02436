-- Document 01, rules 2 and 3: what each says of a record's values; the ladder as document 02, 2026-04 and 2026-05, has it. Assumes nothing.
use Rattle.std.specs.Prelude.{ℕ, ◌+◌, ◌/◌, ◌%◌, List, [], ◌∷◌, Bool, eqb, ltb, leb, Option, Some, None}
use Rattle.reading.specs.Pick.{pick, and}
use Rattle.findings.specs.declared.Finding.{Finding}
use Rattle.decoders.specs.Codes.{bits_in}
use Rattle.decoders.specs.Cas.{in_set}
use Rattle.decoders.specs.Timing.{rate_of}
use Rattle.decoders.specs.declared.identity.IdentityAndBase.{IdentityAndBase}
use Rattle.decoders.specs.declared.identity.PackageType.{PackageType}
use Rattle.decoders.specs.declared.identity.PackageType.TheVariants.{Monolithic, DualDie, ThreeDs}
use Rattle.decoders.specs.declared.timing.CasLatencies.{CasLatencies}
use Rattle.decoders.specs.declared.timing.Timings.{Timings}
use Rattle.rules.specs.declared.TimingOrder.{TimingOrder}
use Rattle.rules.specs.declared.TimingOrder.TheVariants.{RasGeRcd, RcGeRas}
use Rattle.rules.specs.declared.ClockTimingParam.{ClockTimingParam}
use Rattle.rules.specs.declared.ClockTimingParam.TheVariants.{Trcd, Trp}
use Rattle.rules.specs.declared.RatedTimings.{RatedTimings}
use Rattle.rules.specs.declared.Edition.{Edition}
use Rattle.rules.specs.declared.Edition.TheVariants.{First, Second}
use Rattle.rules.specs.Table.{non_integer_device_count, trc_identity_mismatch, timing_ordering_violation, non_integer_cas_latency, cas_latency_not_supported, non_integer_clock_timing, non_standard_data_rate, package_die_count_mismatch}

-- the bus width is a positive multiple of the I/O width
abbrev pub device_count : (bus io : ℕ) → Option Finding
device_count bus io =
    pick (eqb io 0) (Some (non_integer_device_count bus io))
    (pick (eqb bus 0) (Some (non_integer_device_count bus io))
    (pick (eqb (bus % io) 0) None (Some (non_integer_device_count bus io))))

abbrev pub capacity : IdentityAndBase → Option Finding
capacity d = device_count d.primary_bus_width_bits (bits_in d.io_width)

-- a monolithic package has one die, and the others have more
abbrev pub coherence : PackageType → (dies : ℕ) → Option Finding
coherence Monolithic dies = pick (eqb dies 1) None (Some (package_die_count_mismatch Monolithic dies))
coherence DualDie dies = pick (ltb 1 dies) None (Some (package_die_count_mismatch DualDie dies))
coherence ThreeDs dies = pick (ltb 1 dies) None (Some (package_die_count_mismatch ThreeDs dies))

abbrev pub trc_identity : (trc tras trp : ℕ) → Option Finding
trc_identity trc tras trp = pick (eqb trc (tras + trp)) None (Some (trc_identity_mismatch trc tras trp))

abbrev pub ordering : TimingOrder → (larger smaller : ℕ) → Option Finding
ordering relation larger smaller = pick (ltb larger smaller) (Some (timing_ordering_violation relation larger smaller)) None

-- a whole CL must be in the set, where there is one
abbrev pub supported_in : CasLatencies → (cl : ℕ) → Option Finding
supported_in set cl = pick (in_set set cl) None (Some (cas_latency_not_supported cl))

abbrev pub supported : Option CasLatencies → (cl : ℕ) → Option Finding
supported None cl = None
supported (Some set) cl = supported_in set cl

-- silent with tCK 0; a fractional CL is a finding, and the set is not asked
abbrev pub cas_latency : (taa tck : ℕ) → Option CasLatencies → Option Finding
cas_latency taa tck set =
    pick (eqb tck 0) None
    (pick (eqb (taa % tck) 0) (supported set (taa / tck)) (Some (non_integer_cas_latency taa tck)))

-- silent with tCK 0
abbrev pub clock_multiple : ClockTimingParam → (value tck : ℕ) → Option Finding
clock_multiple param value tck =
    pick (eqb tck 0) None
    (pick (eqb (value % tck) 0) None (Some (non_integer_clock_timing param value tck)))

-- where an edition's ladder ends: all that the editions differ in
abbrev pub top : Edition → ℕ
top First = 6400
top Second = 8800

-- the ladder: a multiple of 400 from 3200 to its end
unfoldable pub on_ladder : Edition → ℕ → Bool
on_ladder e rate = and (leb 3200 rate) (and (leb rate (top e)) (eqb (rate % 400) 0))

-- silent with rate 0
abbrev pub standard_rate : Edition → (rate : ℕ) → Option Finding
standard_rate e rate = pick (eqb rate 0) None (pick (on_ladder e rate) None (Some (non_standard_data_rate rate)))

-- the rules on an identity record, in order
abbrev pub identity_rules : List (IdentityAndBase → Option Finding)
identity_rules = capacity ∷ (λ d. coherence d.package_type d.die_count) ∷ []

-- the rules on a timing record, in order
abbrev pub timing_rules : Edition → List (Timings → Option Finding)
timing_rules e =
    (λ t. trc_identity t.trc.0 t.tras.0 t.trp.0)
    ∷ (λ t. ordering RasGeRcd t.tras.0 t.trcd.0)
    ∷ (λ t. ordering RcGeRas t.trc.0 t.tras.0)
    ∷ (λ t. cas_latency t.taa.0 t.tckavg_min.0 (Some t.supported_cas_latencies))
    ∷ (λ t. clock_multiple Trcd t.trcd.0 t.tckavg_min.0)
    ∷ (λ t. clock_multiple Trp t.trp.0 t.tckavg_min.0)
    ∷ (λ t. standard_rate e (rate_of t.tckavg_min.0))
    ∷ []

-- the rules on a rated profile, with its own cycle time and its given rate
abbrev pub rated_rules : Edition → List (RatedTimings → Option Finding)
rated_rules e =
    (λ r. ordering RasGeRcd r.tras.0 r.trcd.0)
    ∷ (λ r. cas_latency r.taa.0 r.cycle_time.0 None)
    ∷ (λ r. clock_multiple Trcd r.trcd.0 r.cycle_time.0)
    ∷ (λ r. clock_multiple Trp r.trp.0 r.cycle_time.0)
    ∷ (λ r. standard_rate e r.data_rate_mt_s)
    ∷ []

-- what each of a row of rules says, in order
abbrev pub each : {A : Type 0} → List (A → Option Finding) → A → List (Option Finding)
each [] a = []
each (rule ∷ rules) a = rule a ∷ each rules a
