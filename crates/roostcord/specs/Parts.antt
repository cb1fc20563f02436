-- What is made of an image before its numbers are put, and in which parts they are. Only private functions promise in these terms. Assumes nothing.
use Rattle.std.specs.Prelude.{ℕ, List, length, take, Ok, Err}
use Rattle.reading.specs.Refusal.{Answer, onward}
use Rattle.decoders.specs.Timing.{timings_of}
use Rattle.decoders.specs.Clocks.{clock_table_of}
use Rattle.decoders.specs.declared.clocks.ClockTable.{ClockTable}
use Rattle.decoders.specs.declared.timing.Timings.{Timings}
use Rattle.manufacturing.specs.Block.{manufacturing_of}
use Rattle.manufacturing.specs.Part.{part_of}
use Rattle.manufacturing.specs.declared.DateMode.{DateMode}
use Rattle.roostcord.specs.Numbers.{timing_numbers}
use Rattle.roostcord.specs.declared.numbers.Labelled.{Labelled}

abbrev pub clock_table_in : List ℕ → Answer ClockTable
clock_table_in s = onward Err (timings_of s) clock_table_of

abbrev pub labelled_in : DateMode → List ℕ → Answer Labelled
labelled_in mode s = onward Err (manufacturing_of mode s) (λ m. Ok (record { block = m; part_len = length (part_of s) }))

-- of the timings' numbers all but the data rate, which comes last
unfoldable pub first_timing_numbers : Timings → List ℕ
first_timing_numbers t = take 29 (timing_numbers t)
