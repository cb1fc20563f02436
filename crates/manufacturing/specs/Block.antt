-- Document 02, 2026-02: the manufacturing block, bytes 512 to 554. Assumes nothing.
use Rattle.std.specs.Prelude.{ℕ, ◌+◌, ◌*◌, ◌/◌, ◌%◌, List, [], ◌∷◌, Bool, false, not, ltb, leb, Ok, Err}
use Rattle.reading.specs.Pick.{pick, and}
use Rattle.reading.specs.declared.Refusal.TheVariants.{StrictDate}
use Rattle.reading.specs.View.{View, view}
use Rattle.reading.specs.Refusal.{Answer}
use Rattle.reading.specs.Ranges.{missing_at, whole}
use Rattle.manufacturing.specs.declared.DateMode.{DateMode}
use Rattle.manufacturing.specs.declared.DateMode.TheVariants.{AsIs, Strict}
use Rattle.manufacturing.specs.declared.ManufacturerId.{ManufacturerId}
use Rattle.manufacturing.specs.declared.ManufacturingDate.{ManufacturingDate}
use Rattle.manufacturing.specs.declared.SerialNumber.{SerialNumber}
use Rattle.manufacturing.specs.declared.Manufacturing.{Manufacturing}

-- what is read, by its start and its number of bytes
abbrev pub manufacturing_ranges : List (ℕ × ℕ)
manufacturing_ranges = (512, 43) ∷ []

-- a maker: the low seven bits of two bytes, and 1 more for its bank
abbrev pub maker_of : ℕ → ℕ → ManufacturerId
maker_of lsb msb = record { bank = lsb % 128 + 1; code = msb % 128 }

-- two digits, one to a nibble; 0xFF is 165
abbrev pub bcd_of : ℕ → ℕ
bcd_of b = b / 16 * 10 + b % 16

abbrev pub date_of : ℕ → ℕ → ManufacturingDate
date_of year week = record { year = 2000 + bcd_of year; week = bcd_of week }

-- the first byte is the highest
abbrev pub serial_of : ℕ → ℕ → ℕ → ℕ → SerialNumber
serial_of b0 b1 b2 b3 = record { 0 = ((b0 * 256 + b1) * 256 + b2) * 256 + b3 }

-- both nibbles are decimal digits
abbrev pub digits : ℕ → Bool
digits b = and (ltb (b / 16) 10) (ltb (b % 16) 10)

-- two bytes are a date
abbrev pub good_date : ℕ → ℕ → Bool
good_date year week = and (digits year) (and (digits week) (and (leb 1 (bcd_of week)) (leb (bcd_of week) 53)))

-- the strict mode refuses what is no date
abbrev pub date_refused : DateMode → ℕ → ℕ → Bool
date_refused AsIs year week = false
date_refused Strict year week = not (good_date year week)

-- the record
abbrev pub block_at : View → Manufacturing
block_at v =
    record {
      module_manufacturer = maker_of (v.byte 512) (v.byte 513);
      manufacturing_location = v.byte 514;
      manufacturing_date = date_of (v.byte 515) (v.byte 516);
      serial_number = serial_of (v.byte 517) (v.byte 518) (v.byte 519) (v.byte 520);
      revision_code = v.byte 551;
      dram_manufacturer = maker_of (v.byte 552) (v.byte 553);
      dram_stepping = v.byte 554;
    }

-- refused 1 where one of the bytes is missing, and then 13 where the date is refused
abbrev pub manufacturing_at : DateMode → View → Answer Manufacturing
manufacturing_at mode v =
    whole Err (missing_at manufacturing_ranges v)
    (pick (date_refused mode (v.byte 515) (v.byte 516)) (Err StrictDate)
    (Ok (block_at v)))

unfoldable pub manufacturing_of : DateMode → List ℕ → Answer Manufacturing
manufacturing_of mode s = manufacturing_at mode (view s)
