-- Document 02, 2026-07: the record of a DDR4 image, its sizes and its times, and when it is refused instead. Assumes nothing.
use Rattle.std.specs.Prelude.{ℕ, ◌*◌, ◌%◌, ◌^◌, List, [], ◌∷◌, ◌++◌, Bool, not, pos, eqb, ltb, Ok, Err}
use Rattle.std.specs.Int.Signed.{lt_z}
use Rattle.reading.specs.Pick.{pick}
use Rattle.reading.specs.declared.Refusal.TheVariants.{NegativeTime, NotDdr5, UnknownEnum}
use Rattle.reading.specs.View.{View, view}
use Rattle.reading.specs.Refusal.{Answer}
use Rattle.reading.specs.declared.Refusal.{Refusal}
use Rattle.reading.specs.Ranges.{missing_at, whole}
use Rattle.ddr4.specs.Times.{tck_at, taa_at, trcd_at, trp_at, tras_at, trc_at, whole_of}
use Rattle.ddr4.specs.declared.Ddr4.{Ddr4}

-- what is read, by its start and its number of bytes
abbrev pub ddr4_ranges : List (ℕ × ℕ)
ddr4_ranges = (2, 1) ∷ (4, 1) ∷ (12, 2) ∷ (17, 2) ∷ (24, 6) ∷ (120, 4) ∷ (125, 1) ∷ []

-- the codes: the low four or three bits of a byte
abbrev pub timebase_at : View → ℕ
timebase_at v = v.byte 17 % 16

abbrev pub density_at : View → ℕ
density_at v = v.byte 4 % 16

abbrev pub io_width_at : View → ℕ
io_width_at v = v.byte 12 % 8

abbrev pub bus_width_at : View → ℕ
bus_width_at v = v.byte 13 % 8

-- the record: a size doubles with its code, from 256 Mb, 4 bits and 8 bits on
abbrev pub record_at : View → Ddr4
record_at v =
    record {
      megabits = 256 * 2 ^ density_at v;
      io_width_bits = 4 * 2 ^ io_width_at v;
      bus_width_bits = 8 * 2 ^ bus_width_at v;
      tck = whole_of (tck_at v);
      taa = whole_of (taa_at v);
      trcd = whole_of (trcd_at v);
      trp = whole_of (trp_at v);
      tras = tras_at v;
      trc = whole_of (trc_at v);
    }

-- each check by when it refuses, and by what: the codes, field by field
abbrev pub code_checks : View → List (Bool × Refusal)
code_checks v =
    (ltb 0 (timebase_at v), UnknownEnum 21 (timebase_at v))
    ∷ (ltb 7 (density_at v), UnknownEnum 22 (density_at v))
    ∷ (ltb 3 (io_width_at v), UnknownEnum 23 (io_width_at v))
    ∷ (ltb 3 (bus_width_at v), UnknownEnum 24 (bus_width_at v))
    ∷ []

-- the times, by their place in the order
abbrev pub time_checks : View → List (Bool × Refusal)
time_checks v =
    (lt_z (tck_at v) (pos 0), NegativeTime 1)
    ∷ (lt_z (taa_at v) (pos 0), NegativeTime 2)
    ∷ (lt_z (trcd_at v) (pos 0), NegativeTime 3)
    ∷ (lt_z (trp_at v) (pos 0), NegativeTime 4)
    ∷ (lt_z (trc_at v) (pos 0), NegativeTime 5)
    ∷ []

-- and before both the type
abbrev pub checks_at : View → List (Bool × Refusal)
checks_at v = (not (eqb (v.byte 2) 0x0C), NotDdr5 (v.byte 2)) ∷ (code_checks v ++ time_checks v)

-- the first check that refuses, and what is good where none does
abbrev pub first_of : {A : Type 0} → Answer A → List (Bool × Refusal) → Answer A
first_of good [] = good
first_of good ((test, why) ∷ checks) = pick test (Err why) (first_of good checks)

-- refused 1 where one of the bytes is missing, and then by the first check
abbrev pub ddr4_at : View → Answer Ddr4
ddr4_at v = whole Err (missing_at ddr4_ranges v) (first_of (Ok (record_at v)) (checks_at v))

unfoldable pub ddr4_of : List ℕ → Answer Ddr4
ddr4_of s = ddr4_at (view s)
