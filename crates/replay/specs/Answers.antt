-- Answers as the numbers of a record. Assumes nothing.
use Rattle.std.specs.Prelude.{ℕ, Bool, true, false, List, [], ◌∷◌, ◌++◌, length, take}
use Rattle.reading.specs.Refusal.{Answer, Told, told, onward}
use Rattle.decoders.specs.Codes.{device_code, module_code, gigabits_in, package_code, bits_in, groups_in, banks_in}
use Rattle.decoders.specs.Timing.{rate_of}
use Rattle.decoders.specs.declared.identity.IdentityAndBase.{IdentityAndBase}
use Rattle.decoders.specs.declared.timing.Timings.{Timings}
use Rattle.findings.specs.declared.Finding.{Finding}
use Rattle.findings.specs.declared.Findings.{Findings}
use Rattle.findings.specs.declared.Severity.{Severity}
use Rattle.findings.specs.declared.Severity.TheVariants.{Error, Warning, Info}

abbrev pub bit_of : Bool → ℕ
bit_of true = 1
bit_of false = 0

abbrev pub rank_of : Severity → ℕ
rank_of Error = 1
rank_of Warning = 2
rank_of Info = 3

abbrev pub refusal_numbers : Told → List ℕ
refusal_numbers t = t.number ∷ t.first ∷ t.second ∷ []

abbrev pub identity_record : IdentityAndBase → List ℕ
identity_record d =
    0
    ∷ d.spd_bytes_total
    ∷ d.spd_revision.major
    ∷ d.spd_revision.minor
    ∷ device_code d.device_type
    ∷ module_code d.module_type
    ∷ bit_of d.hybrid
    ∷ gigabits_in d.density_per_die
    ∷ package_code d.package_type
    ∷ d.die_count
    ∷ d.row_address_bits
    ∷ d.column_address_bits
    ∷ bits_in d.io_width
    ∷ groups_in d.bank_groups
    ∷ banks_in d.banks_per_bank_group
    ∷ d.package_ranks_per_channel
    ∷ bit_of d.rank_mix_asymmetric
    ∷ d.channels_per_dimm
    ∷ d.primary_bus_width_bits
    ∷ []

abbrev pub timing_record : Timings → List ℕ
timing_record t =
    0
    ∷ t.tckavg_min.0
    ∷ t.tckavg_max.0
    ∷ t.taa.0
    ∷ t.trcd.0
    ∷ t.trp.0
    ∷ t.tras.0
    ∷ t.trc.0
    ∷ t.twr.0
    ∷ t.trfc1.0
    ∷ t.trfc2.0
    ∷ t.trfcsb.0
    ∷ t.trrd_l.time.0 ∷ t.trrd_l.clocks.0
    ∷ t.tccd_l.time.0 ∷ t.tccd_l.clocks.0
    ∷ t.tccd_l_wr.time.0 ∷ t.tccd_l_wr.clocks.0
    ∷ t.tccd_l_wr2.time.0 ∷ t.tccd_l_wr2.clocks.0
    ∷ t.tfaw.time.0 ∷ t.tfaw.clocks.0
    ∷ t.twtr_l.time.0 ∷ t.twtr_l.clocks.0
    ∷ t.twtr_s.time.0 ∷ t.twtr_s.clocks.0
    ∷ t.trtp.time.0 ∷ t.trtp.clocks.0
    ∷ []

abbrev pub finding_record : Finding → List ℕ
finding_record f = f.code ∷ rank_of f.severity ∷ f.sub ∷ f.first ∷ f.second ∷ f.third ∷ []

-- findings one behind the other, behind their count, and those of an array
abbrev pub row_numbers : List Finding → List ℕ
row_numbers [] = []
row_numbers (f ∷ fs) = finding_record f ++ row_numbers fs

abbrev pub list_numbers : List Finding → List ℕ
list_numbers l = length l ∷ row_numbers l

abbrev pub found_numbers : Findings → List ℕ
found_numbers found = found.count ∷ row_numbers (take found.count found.items)

-- what a decoder says: the record's numbers, or the refusal's
abbrev pub said_numbers : {A : Type 0} → (A → List ℕ) → Answer A → List ℕ
said_numbers numbers said = onward (λ why. refusal_numbers (told why)) said numbers

-- the data rate, where there are timings
abbrev pub rate_numbers : Answer Timings → List ℕ
rate_numbers said = onward (λ t. 0 ∷ []) said (λ t. 1 ∷ rate_of t.tckavg_min.0 ∷ [])
