-- What a call answers, as document 01 words it: a value, or a refusal. `Result` is the answer itself, so that the promise of a call is one
-- equation; `told` says which number each refusal has and what it carries. Assumes nothing.
use Rattle.std.specs.Prelude.{ℕ, Result, Ok, Err}
use Rattle.reading.specs.declared.Refusal.{Refusal}
use Rattle.reading.specs.declared.Refusal.TheVariants.{Truncated, NotDdr5, UnknownEnum, ListTooShort, WrongOffset, TooLong, ZeroClock, BufferTooSmall, ReportCut, ReportVersion, ReportMalformed, NotReportable, StrictDate, UnknownEdition, NegativeTime, NeitherSound}

-- a refusal's number and the values that it carries, 0 where it carries fewer than two
pub record Told : Type 0 where
  pub number : ℕ
  pub first : ℕ
  pub second : ℕ

abbrev pub no : (number first second : ℕ) → Told
no n a b = record { number = n; first = a; second = b }

-- document 01, "Refusal numbers", and document 02; 1 carries what 2026-01 adds
abbrev pub told : Refusal → Told
told (Truncated offset) = no 1 offset 0
told (NotDdr5 byte2) = no 2 byte2 0
told (UnknownEnum field code) = no 3 field code
told ListTooShort = no 4 0 0
told (WrongOffset count) = no 5 count 0
told TooLong = no 6 0 0
told ZeroClock = no 7 0 0
told BufferTooSmall = no 8 0 0
told ReportCut = no 9 0 0
told ReportVersion = no 10 0 0
told ReportMalformed = no 11 0 0
told NotReportable = no 12 0 0
told StrictDate = no 13 0 0
told UnknownEdition = no 14 0 0
told (NegativeTime place) = no 15 place 0
told NeitherSound = no 21 0 0

-- how many values a refusal carries
abbrev pub carried : Refusal → ℕ
carried (Truncated offset) = 1
carried (NotDdr5 byte2) = 1
carried (UnknownEnum field code) = 2
carried ListTooShort = 0
carried (WrongOffset count) = 1
carried TooLong = 0
carried ZeroClock = 0
carried BufferTooSmall = 0
carried ReportCut = 0
carried ReportVersion = 0
carried ReportMalformed = 0
carried NotReportable = 0
carried StrictDate = 0
carried UnknownEdition = 0
carried (NegativeTime place) = 1
carried NeitherSound = 0

-- a call's answer, where it may refuse
abbrev pub Answer : Type 0 → Type 0
Answer A = Result A Refusal

-- goes on with the value, or stops at the refusal: its ends are open, so that a chain of checks can be read for whatever is made of it
abbrev pub onward : {A X : Type 0} → (Refusal → X) → Answer A → (A → X) → X
onward stop (Ok a) go = go a
onward stop (Err why) go = stop why
