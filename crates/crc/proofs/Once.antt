-- The number of a read tells which read it is: no second answer has the same number, or the same refusal. Assumes nothing.
use mathlib.Core.Path.{◌≡◌, refl}
use lib.Dec.{eqb}
use Prim.Native.Nat.{ℕ}
use Rattle.std.specs.Prelude.{Ok, Err}
use Rattle.reading.specs.Pick.{pick}
use Rattle.reading.specs.Refusal.{Answer, onward}
use Rattle.reading.proofs.Once.{once, worded, answer-once}
use Rattle.crc.specs.Base.{read_number}
use Rattle.crc.specs.declared.SoundRead.{SoundRead}
use Rattle.crc.specs.declared.SoundRead.TheVariants.{First, Second}

-- the same answer with the number of the read for the read
abbrev pub numbered : Answer SoundRead → Answer ℕ
numbered a = onward Err a (λ r. Ok (read_number r))

abbrev unnumbered : Answer ℕ → Answer SoundRead
unnumbered a = onward Err a (λ n. Ok (pick (eqb n 1) First Second))

unnumbered-numbered : (a : Answer SoundRead) → unnumbered (numbered a) ≡ a
unnumbered-numbered (Ok First) = refl
unnumbered-numbered (Ok Second) = refl
unnumbered-numbered (Err why) = refl

pub sound-once : (a b : Answer SoundRead) → worded (numbered a) ≡ worded (numbered b) → a ≡ b
sound-once a b e = once numbered unnumbered unnumbered-numbered a b (answer-once (numbered a) (numbered b) e)
