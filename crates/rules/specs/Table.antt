-- Document 01, "Report form": one finding of each code, with its severity, its sub and its numbers, 0 where the table lists none; and the
-- test that a finding is one of the table's. Assumes nothing.
use Rattle.std.specs.Prelude.{ℕ, Bool, true, false, List, [], ◌∷◌, eqb, leb}
use Rattle.reading.specs.Pick.{pick, and}
use Rattle.findings.specs.declared.Severity.{Severity}
use Rattle.findings.specs.declared.Severity.TheVariants.{Error, Warning, Info}
use Rattle.findings.specs.declared.Finding.{Finding}
use Rattle.findings.specs.Same.{same_severity}
use Rattle.decoders.specs.declared.identity.PackageType.{PackageType}
use Rattle.decoders.specs.Codes.{package_code}
use Rattle.rules.specs.declared.TimingOrder.{TimingOrder}
use Rattle.rules.specs.declared.TimingOrder.TheVariants.{RasGeRcd, RcGeRas}
use Rattle.rules.specs.declared.ClockTimingParam.{ClockTimingParam}
use Rattle.rules.specs.declared.ClockTimingParam.TheVariants.{Trcd, Trp}

abbrev pub finding : (code : ℕ) → Severity → (sub first second third : ℕ) → Finding
finding code severity sub first second third =
    record { code = code; severity = severity; sub = sub; first = first; second = second; third = third }

-- tRAS/tRCD and tRC/tRAS
abbrev pub order_sub : TimingOrder → ℕ
order_sub RasGeRcd = 1
order_sub RcGeRas = 2

abbrev pub clock_sub : ClockTimingParam → ℕ
clock_sub Trcd = 1
clock_sub Trp = 2

abbrev pub non_integer_device_count : (bus io : ℕ) → Finding
non_integer_device_count bus io = finding 1 Error 0 bus io 0

abbrev pub trc_identity_mismatch : (trc tras trp : ℕ) → Finding
trc_identity_mismatch trc tras trp = finding 2 Error 0 trc tras trp

abbrev pub timing_ordering_violation : TimingOrder → (larger smaller : ℕ) → Finding
timing_ordering_violation relation larger smaller = finding 3 Error (order_sub relation) larger smaller 0

abbrev pub non_integer_cas_latency : (taa tck : ℕ) → Finding
non_integer_cas_latency taa tck = finding 4 Warning 0 taa tck 0

abbrev pub cas_latency_not_supported : (cl : ℕ) → Finding
cas_latency_not_supported cl = finding 5 Error 0 cl 0 0

abbrev pub non_integer_clock_timing : ClockTimingParam → (value tck : ℕ) → Finding
non_integer_clock_timing param value tck = finding 6 Warning (clock_sub param) value tck 0

abbrev pub non_standard_data_rate : (rate : ℕ) → Finding
non_standard_data_rate rate = finding 7 Info 0 rate 0 0

abbrev pub reserved_bytes_nonzero : (offset value : ℕ) → Finding
reserved_bytes_nonzero offset value = finding 8 Warning 0 offset value 0

abbrev pub package_die_count_mismatch : PackageType → (dies : ℕ) → Finding
package_die_count_mismatch package-type dies = finding 9 Error (package_code package-type) dies 0 0

-- What may stand in a place of the table. Where nothing is listed: 0
abbrev pub none : ℕ → Bool
none n = eqb n 0

-- one of the subs 1 to k
abbrev pub one_to : (k : ℕ) → ℕ → Bool
one_to k n = and (leb 1 n) (leb n k)

-- a number of at most k
abbrev pub most : (k : ℕ) → ℕ → Bool
most k n = leb n k

-- any number: 32 bits are the field's own bound
abbrev pub any : ℕ → Bool
any n = true

-- a row of the table: the severity of the code's rule, then what may stand in sub and in the three numbers
pub record Row : Type 0 where
  pub severity : Severity
  pub sub : ℕ → Bool
  pub first : ℕ → Bool
  pub second : ℕ → Bool
  pub third : ℕ → Bool

abbrev pub row : Severity → (sub first second third : ℕ → Bool) → Row
row severity sub first second third = record { severity = severity; sub = sub; first = first; second = second; third = third }

-- the row of a code; at any other code no sub is taken, so every finding is outside
unfoldable pub row_of : (code : ℕ) → Row
row_of code =
    pick (eqb code 1) (row Error none (most 65535) (most 65535) none)
    (pick (eqb code 2) (row Error none any any any)
    (pick (eqb code 3) (row Error (one_to 2) any any none)
    (pick (eqb code 4) (row Warning none any any none)
    (pick (eqb code 5) (row Error none (most 65535) none none)
    (pick (eqb code 6) (row Warning (one_to 2) any any none)
    (pick (eqb code 7) (row Info none any none none)
    (pick (eqb code 8) (row Warning none (most 65535) (most 255) none)
    (pick (eqb code 9) (row Error (one_to 3) (most 255) none none)
    (row Info (λ n. false) none none none)))))))))

-- every part of the finding is the row's
abbrev pub in_row : Row → Finding → Bool
in_row r f =
    and (same_severity r.severity f.severity)
    (and (r.sub f.sub)
    (and (r.first f.first)
    (and (r.second f.second)
    (r.third f.third))))

-- a finding of the table, and a list of such findings
unfoldable pub in_table : Finding → Bool
in_table f = in_row (row_of f.code) f

abbrev pub all_in : List Finding → Bool
all_in [] = true
all_in (f ∷ l) = and (in_table f) (all_in l)
