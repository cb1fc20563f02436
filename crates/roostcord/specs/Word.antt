-- An answer as one signed number: a count, or minus a refusal word. Assumes nothing.
use Rattle.std.specs.Prelude.{ℕ, ◌+◌, ◌*◌, ◌%◌, ℤ, pos, neg_ℤ, Ok, Err}
use Rattle.reading.specs.Refusal.{Told, told, Answer}

-- number + 256 * first value + 2^20 * second value; each value has bits of its own
abbrev pub refusal_word : Told → ℕ
refusal_word t = t.number + 256 * (t.first % 4096) + 1048576 * (t.second % 1024)

abbrev pub word_of : Answer ℕ → ℤ
word_of (Ok n) = pos n
word_of (Err why) = neg_ℤ (pos (refusal_word (told why)))

-- the version of the library, major * 65536 + minor * 256 + patch, as station/roostcord.h has it: 2.2.0
abbrev pub library_version : ℕ
library_version = 0x020200
