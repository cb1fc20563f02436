-- No two refusals have the same word: each part of a word has bits of its own, so the word says the number and both values, and these say
-- the refusal. Every number is above 0, so minus a word is no count. Assumes nothing.
use Prim.Native.Nat.{ℕ, zero, suc, ◌+◌, ◌*◌, ◌%◌, ◌<◌}
use mathlib.Core.Path.{◌≡◌, ap, sym, ◌∙◌}
use native.Mathlib.Nat.{add-mul-mod_self_left, mod-eq_of_lt}
use native.Mathlib.Omega.{arith}
use lib.IntN.{pos, neg_ℤ, pos-ne-negsuc}
use Rattle.reading.specs.Refusal.{told}
use Rattle.reading.specs.declared.Refusal.{Refusal}
use Rattle.reading.specs.declared.Refusal.TheVariants.{Truncated, NotDdr5, UnknownEnum, ListTooShort, WrongOffset, TooLong, ZeroClock, BufferTooSmall, ReportCut, ReportVersion, ReportMalformed, NotReportable, StrictDate, UnknownEdition, NegativeTime, NeitherSound}
use Rattle.reading.proofs.Once.{told-once}
use Rattle.roostcord.specs.Word.{refusal_word}

numbered : (r : Refusal) → (0 < (told r).number) × ((told r).number < 256)
numbered (Truncated offset) = (omega arith, omega arith)
numbered (NotDdr5 byte2) = (omega arith, omega arith)
numbered (UnknownEnum field code) = (omega arith, omega arith)
numbered ListTooShort = (omega arith, omega arith)
numbered (WrongOffset count) = (omega arith, omega arith)
numbered TooLong = (omega arith, omega arith)
numbered ZeroClock = (omega arith, omega arith)
numbered BufferTooSmall = (omega arith, omega arith)
numbered ReportCut = (omega arith, omega arith)
numbered ReportVersion = (omega arith, omega arith)
numbered ReportMalformed = (omega arith, omega arith)
numbered NotReportable = (omega arith, omega arith)
numbered StrictDate = (omega arith, omega arith)
numbered UnknownEdition = (omega arith, omega arith)
numbered (NegativeTime place) = (omega arith, omega arith)
numbered NeitherSound = (omega arith, omega arith)

-- a refusal's values are within their bits
pub record InBits (r : Refusal) : Type 0 where
  pub first : (told r).first < 4096
  pub second : (told r).second < 1024

-- in front of a multiple of k stands one number below k
low : (k a b : ℕ) {n m : ℕ} → n < k → m < k → n + k * a ≡ m + k * b → n ≡ m
low k a b {n} {m} p q e =
    sym (add-mul-mod_self_left n k a ∙ mod-eq_of_lt p) ∙ ap (◌% k) e ∙ add-mul-mod_self_left m k b ∙ mod-eq_of_lt q

-- a word above its number: the two values
abbrev above : Refusal → ℕ
above r = (told r).first + 4096 * (told r).second

word-is : (r : Refusal) → InBits r → refusal_word (told r) ≡ (told r).number + 256 * above r
word-is r p = rw (mod-eq_of_lt p.first, mod-eq_of_lt p.second) (omega arith)

pub word-once : (a b : Refusal) → InBits a → InBits b → refusal_word (told a) ≡ refusal_word (told b) → a ≡ b
word-once a b p q e =
    let w : (told a).number + 256 * above a ≡ (told b).number + 256 * above b = sym (word-is a p) ∙ e ∙ word-is b q in
    let number : (told a).number ≡ (told b).number = low 256 (above a) (above b) (numbered a).1 (numbered b).1 w in
    let first : (told a).first ≡ (told b).first = low 4096 (told a).second (told b).second p.first q.first (omega arith) in
    let second : (told a).second ≡ (told b).second = omega arith in
    told-once a b (λ i. record { number = number i; first = first i; second = second i })

no-count : (n w : ℕ) → 0 < w → pos n ≡ neg_ℤ (pos w) → ⊥
no-count n zero h e = omega arith
no-count n (suc w) h e = pos-ne-negsuc n w e

pub count-or-word : (n : ℕ) (r : Refusal) → pos n ≡ neg_ℤ (pos (refusal_word (told r))) → ⊥
count-or-word n r e = no-count n (refusal_word (told r)) (omega (arith, numbered r)) e
