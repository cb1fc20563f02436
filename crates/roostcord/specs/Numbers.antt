-- Records as lists of numbers, in the order that station/roostcord.h gives, and a lent list of numbers after a call. Assumes nothing.
use Rattle.std.specs.Prelude.{ℕ, ◌/◌, ◌%◌, Bool, true, false, List, [], ◌∷◌, eqb, ltb, length, Ok, Err}
use Rattle.reading.specs.Pick.{pick}
use Rattle.reading.specs.declared.Refusal.TheVariants.{ListTooShort}
use Rattle.reading.specs.Refusal.{Answer, onward}
use Rattle.reading.specs.Lent.{laid}
use Rattle.decoders.specs.Codes.{device_code, module_code, gigabits_in, package_code, bits_in, groups_in, banks_in}
use Rattle.decoders.specs.Cas.{cas_list}
use Rattle.decoders.specs.Identity.{identity_of}
use Rattle.decoders.specs.Timing.{timings_of, rate_of}
use Rattle.decoders.specs.Clocks.{clock_table_of}
use Rattle.manufacturing.specs.Block.{manufacturing_of}
use Rattle.manufacturing.specs.Part.{part_of}
use Rattle.manufacturing.specs.declared.DateMode.{DateMode}
use Rattle.manufacturing.specs.declared.DateMode.TheVariants.{AsIs, Strict}
use Rattle.manufacturing.specs.declared.Manufacturing.{Manufacturing}
use Rattle.crc.specs.Base.{base_crc_of}
use Rattle.ddr4.specs.Module.{ddr4_of}
use Rattle.ddr4.specs.declared.Ddr4.{Ddr4}
use Rattle.ddr4rules.specs.Lint.{ddr4_found}
use Rattle.findings.specs.declared.Finding.{Finding}
use Rattle.findings.specs.Same.{severity_number}
use Rattle.report.specs.Read.{Content, content_of}
use Rattle.decoders.specs.declared.identity.IdentityAndBase.{IdentityAndBase}
use Rattle.decoders.specs.declared.timing.Timings.{Timings}
use Rattle.decoders.specs.declared.clocks.ClockTable.{ClockTable}

abbrev pub bit : Bool → ℕ
bit true = 1
bit false = 0

-- eighteen numbers
abbrev pub identity_numbers : IdentityAndBase → List ℕ
identity_numbers d =
    d.spd_bytes_total
    ∷ d.spd_revision.major
    ∷ d.spd_revision.minor
    ∷ device_code d.device_type
    ∷ module_code d.module_type
    ∷ bit d.hybrid
    ∷ gigabits_in d.density_per_die
    ∷ package_code d.package_type
    ∷ d.die_count
    ∷ d.row_address_bits
    ∷ d.column_address_bits
    ∷ bits_in d.io_width
    ∷ groups_in d.bank_groups
    ∷ banks_in d.banks_per_bank_group
    ∷ d.package_ranks_per_channel
    ∷ bit d.rank_mix_asymmetric
    ∷ d.channels_per_dimm
    ∷ d.primary_bus_width_bits
    ∷ []

-- thirty numbers
abbrev pub timing_numbers : Timings → List ℕ
timing_numbers t =
    t.tckavg_min.0
    ∷ t.tckavg_max.0
    ∷ t.supported_cas_latencies.0 % 4294967296
    ∷ t.supported_cas_latencies.0 / 4294967296 % 256
    ∷ t.taa.0
    ∷ t.trcd.0
    ∷ t.trp.0
    ∷ t.tras.0
    ∷ t.trc.0
    ∷ t.twr.0
    ∷ t.trfc1.0
    ∷ t.trfc2.0
    ∷ t.trfcsb.0
    ∷ t.trrd_l.time.0 ∷ t.trrd_l.clocks.0
    ∷ t.tccd_l.time.0 ∷ t.tccd_l.clocks.0
    ∷ t.tccd_l_wr.time.0 ∷ t.tccd_l_wr.clocks.0
    ∷ t.tccd_l_wr2.time.0 ∷ t.tccd_l_wr2.clocks.0
    ∷ t.tfaw.time.0 ∷ t.tfaw.clocks.0
    ∷ t.twtr_l.time.0 ∷ t.twtr_l.clocks.0
    ∷ t.twtr_s.time.0 ∷ t.twtr_s.clocks.0
    ∷ t.trtp.time.0 ∷ t.trtp.clocks.0
    ∷ rate_of t.tckavg_min.0
    ∷ []

-- nine numbers
abbrev pub clock_numbers : ClockTable → List ℕ
clock_numbers c = c.taa ∷ c.trcd ∷ c.trp ∷ c.tras ∷ c.trc ∷ c.twr ∷ c.trfc1 ∷ c.trfc2 ∷ c.trfcsb ∷ []

-- eleven numbers: those of the block, and how many bytes its part number has
abbrev pub manufacturing_numbers : Manufacturing → (partLength : ℕ) → List ℕ
manufacturing_numbers m partLength =
    m.module_manufacturer.bank
    ∷ m.module_manufacturer.code
    ∷ m.manufacturing_location
    ∷ m.manufacturing_date.year
    ∷ m.manufacturing_date.week
    ∷ m.serial_number.0
    ∷ m.revision_code
    ∷ m.dram_manufacturer.bank
    ∷ m.dram_manufacturer.code
    ∷ m.dram_stepping
    ∷ partLength
    ∷ []

-- nine numbers
abbrev pub ddr4_numbers : Ddr4 → List ℕ
ddr4_numbers d =
    d.megabits ∷ d.io_width_bits ∷ d.bus_width_bits ∷ d.tck ∷ d.taa ∷ d.trcd ∷ d.trp ∷ d.tras ∷ d.trc ∷ []

-- a report: its flags, and six numbers for each finding
abbrev pub finding_numbers : List Finding → List ℕ
finding_numbers [] = []
finding_numbers (f ∷ l) =
    f.code
    ∷ severity_number f.severity
    ∷ f.sub
    ∷ f.first
    ∷ f.second
    ∷ f.third
    ∷ finding_numbers l

abbrev pub report_numbers : Content → List ℕ
report_numbers c = c.flags ∷ finding_numbers c.findings

-- the numbers of a record, or the refusal that stands for it
abbrev pub numbers_in : {A : Type 0} → (A → List ℕ) → Answer A → Answer (List ℕ)
numbers_in numbers answer = onward Err answer (λ a. Ok (numbers a))

-- the numbers of an image, or the decoder's refusal
unfoldable pub identity_list : List ℕ → Answer (List ℕ)
identity_list s = numbers_in identity_numbers (identity_of s)

unfoldable pub timings_list : List ℕ → Answer (List ℕ)
timings_list s = numbers_in timing_numbers (timings_of s)

unfoldable pub cas_numbers : List ℕ → Answer (List ℕ)
cas_numbers s = numbers_in (λ t. cas_list t.supported_cas_latencies) (timings_of s)

unfoldable pub clocks_list : List ℕ → Answer (List ℕ)
clocks_list s = onward Err (timings_of s) (λ t. numbers_in clock_numbers (clock_table_of t))

-- 0 asks for the date as it is, any other number in the strict mode
abbrev pub mode_of : ℕ → DateMode
mode_of strict = pick (eqb strict 0) AsIs Strict

unfoldable pub manufacturing_list : (strict : ℕ) → List ℕ → Answer (List ℕ)
manufacturing_list strict s = numbers_in (λ m. manufacturing_numbers m (length (part_of s))) (manufacturing_of (mode_of strict) s)

-- the part number's bytes, or the refusal of the block as it is
unfoldable pub part_list : List ℕ → Answer (List ℕ)
part_list s = numbers_in (λ m. part_of s) (manufacturing_of AsIs s)

-- the record of a DDR4 image, and its findings
unfoldable pub ddr4_list : List ℕ → Answer (List ℕ)
ddr4_list s = numbers_in ddr4_numbers (ddr4_of s)

unfoldable pub ddr4_lint_list : List ℕ → Answer (List ℕ)
ddr4_lint_list s = numbers_in (λ d. finding_numbers (ddr4_found d)) (ddr4_of s)

-- the check of the base block: 1 where its CRC fits, 0 where it does not, or the refusal
unfoldable pub crc_number : List ℕ → Answer ℕ
crc_number s = onward Err (base_crc_of s) (λ fits. Ok (bit fits))

-- the numbers of a report, or the reader's refusal
unfoldable pub report_list : List ℕ → Answer (List ℕ)
report_list s = numbers_in report_numbers (content_of s)

-- how many numbers are written into so much room: refusal 4 first, then the decoder's or the reader's
unfoldable pub listed_in : (need : ℕ) → Answer (List ℕ) → (room : ℕ) → Answer ℕ
listed_in need numbers room = pick (ltb room need) (Err ListTooShort) (onward Err numbers (λ l. Ok (length l)))

-- the lent list afterwards: the numbers in its first places, or as it was
unfoldable pub list_after : (need : ℕ) → Answer (List ℕ) → List ℕ → List ℕ
list_after need numbers out = pick (ltb (length out) need) out (onward (λ t. out) numbers (λ l. laid l out))
