-- Two different refusals never have the same number and values, and no more do two different answers: what is said can be read back.
-- Assumes nothing.
use mathlib.Core.Path.{◌≡◌, ap, sym, ◌∙◌}
use lib.Dec.{eqb}
use native.Mathlib.Omega.{arith}
use Rattle.std.specs.Prelude.{Result, Ok, Err}
use Rattle.reading.specs.Pick.{pick}
use Rattle.reading.specs.Refusal.{Told, told, Answer}
use Rattle.reading.specs.declared.Refusal.{Refusal}
use Rattle.reading.specs.declared.Refusal.TheVariants.{Truncated, NotDdr5, UnknownEnum, ListTooShort, WrongOffset, TooLong, ZeroClock, BufferTooSmall, ReportCut, ReportVersion, ReportMalformed, NotReportable, StrictDate, UnknownEdition, NegativeTime, NeitherSound}

-- the refusal that a number and its values stand for
abbrev untold : Told → Refusal
untold t =
    pick (eqb t.number 1) (Truncated t.first)
    (pick (eqb t.number 2) (NotDdr5 t.first)
    (pick (eqb t.number 3) (UnknownEnum t.first t.second)
    (pick (eqb t.number 4) ListTooShort
    (pick (eqb t.number 5) (WrongOffset t.first)
    (pick (eqb t.number 6) TooLong
    (pick (eqb t.number 7) ZeroClock
    (pick (eqb t.number 8) BufferTooSmall
    (pick (eqb t.number 9) ReportCut
    (pick (eqb t.number 10) ReportVersion
    (pick (eqb t.number 11) ReportMalformed
    (pick (eqb t.number 12) NotReportable
    (pick (eqb t.number 13) StrictDate
    (pick (eqb t.number 14) UnknownEdition
    (pick (eqb t.number 15) (NegativeTime t.first)
    NeitherSound))))))))))))))

pub untold-told : (why : Refusal) → untold (told why) ≡ why
untold-told why = grind arith

-- what can be read back is said of one answer alone
pub once : {E S : Type 0} (say : E → S) (back : S → E) → ((e : E) → back (say e) ≡ e) → (a b : E) → say a ≡ say b → a ≡ b
once say back h a b e = sym (h a) ∙ ap back e ∙ h b

pub told-once : (a b : Refusal) → told a ≡ told b → a ≡ b
told-once = once told untold untold-told

-- an answer in document 01's words: the value, or the refusal's number and what it carries
abbrev pub worded : {A : Type 0} → Answer A → Result A Told
worded (Ok a) = Ok a
worded (Err why) = Err (told why)

abbrev unworded : {A : Type 0} → Result A Told → Answer A
unworded (Ok a) = Ok a
unworded (Err t) = Err (untold t)

unworded-worded : {A : Type 0} (a : Answer A) → unworded (worded a) ≡ a
unworded-worded a = grind (arith, untold-told)

-- so of two answers that say the same, of whatever value, there is one alone
pub answer-once : {A : Type 0} (a b : Answer A) → worded a ≡ worded b → a ≡ b
answer-once = once worded unworded unworded-worded
