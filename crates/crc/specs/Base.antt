-- Document 02, 2026-03: the check of the base block, and the sound one of two reads. Assumes nothing.
use Rattle.std.specs.Prelude.{ℕ, ◌+◌, ◌*◌, List, [], ◌∷◌, Bool, false, eqb, take, Ok, Err}
use Rattle.reading.specs.Pick.{pick}
use Rattle.reading.specs.declared.Refusal.TheVariants.{NeitherSound}
use Rattle.reading.specs.View.{View, view}
use Rattle.reading.specs.Made.{firsts}
use Rattle.reading.specs.Refusal.{Answer, onward}
use Rattle.reading.specs.Ranges.{missing_at, whole}
use Rattle.crc.specs.Crc.{crc_of}
use Rattle.crc.specs.declared.SoundRead.{SoundRead}
use Rattle.crc.specs.declared.SoundRead.TheVariants.{First, Second}

-- what is read, by its start and its number of bytes
abbrev pub crc_ranges : List (ℕ × ℕ)
crc_ranges = (0, 512) ∷ []

-- the bytes that the CRC covers, 0 to 509, and the CRC that is stored behind them, low byte first
unfoldable pub covered_at : View → List ℕ
covered_at v = firsts 510 v.byte

abbrev pub stored_at : View → ℕ
stored_at v = v.byte 510 + 256 * v.byte 511

-- yes or no, and refused 1 where one of the bytes is missing
abbrev pub base_crc_at : View → Answer Bool
base_crc_at v = whole Err (missing_at crc_ranges v) (Ok (eqb (crc_of (covered_at v)) (stored_at v)))

unfoldable pub base_crc_of : List ℕ → Answer Bool
base_crc_of s = base_crc_at (view s)

-- a read is sound where it is long enough and its CRC fits
abbrev pub sound_in : List ℕ → Bool
sound_in s = onward (λ t. false) (base_crc_of s) (λ fits. fits)

-- what is made of the first read where it is sound, else of the second where that one is, and else of neither
abbrev pub of_sound : {A : Type 0} → (first second : List ℕ) → A → A → A → A
of_sound first second one two none = pick (sound_in first) one (pick (sound_in second) two none)

-- the base block: bytes 0 to 511 of that read
unfoldable pub block_of : (first second : List ℕ) → List ℕ
block_of first second = of_sound first second (take 512 first) (take 512 second) []

-- which read it is, refused 21 where neither is sound
unfoldable pub sound_read_of : (first second : List ℕ) → Answer SoundRead
sound_read_of first second = of_sound first second (Ok First) (Ok Second) (Err NeitherSound)

-- document 02's number of the read, 1 or 2
abbrev pub read_number : SoundRead → ℕ
read_number First = 1
read_number Second = 2

-- the same answer with that number for the read
abbrev pub sound_number_of : (first second : List ℕ) → Answer ℕ
sound_number_of first second = onward Err (sound_read_of first second) (λ r. Ok (read_number r))
