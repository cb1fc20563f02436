-- Findings as numbers: three small ones and three large ones for each finding, in two flat lists. Assumes nothing.
use Rattle.std.specs.Prelude.{ℕ, List, [], ◌∷◌, ltb, length, Ok, Err}
use Rattle.reading.specs.Pick.{pick}
use Rattle.reading.specs.declared.Refusal.TheVariants.{ListTooShort}
use Rattle.reading.specs.Lent.{laid}
use Rattle.reading.specs.Refusal.{Answer}
use Rattle.findings.specs.declared.Finding.{Finding}
use Rattle.findings.specs.Same.{severity_number}
use Rattle.rules.specs.declared.Edition.{Edition}
use Rattle.rules.specs.Lint.{listing_of, findings_of}
use Rattle.rules.specs.declared.LintRecords.{LintRecords}

-- a finding is three small numbers, which go into the one array, and three large ones, which go into the other
pub record Three : Type 0 where
  pub a : ℕ
  pub b : ℕ
  pub c : ℕ

abbrev pub small_of : Finding → Three
small_of f = record { a = f.code; b = severity_number f.severity; c = f.sub }

abbrev pub numbers_of : Finding → Three
numbers_of f = record { a = f.first; b = f.second; c = f.third }

-- three numbers of each finding, one after the other
abbrev pub flat : (Finding → Three) → List Finding → List ℕ
flat t [] = []
flat t (f ∷ l) = (t f).a ∷ (t f).b ∷ (t f).c ∷ flat t l

-- linting into two lent lists h and n: refusal 4, and both as they were, where one has fewer than forty-five places
abbrev pub roomy : {A : Type 0} → (h n : List ℕ) → (short whole : A) → A
roomy h n short whole = pick (ltb (length h) 45) short (pick (ltb (length n) 45) short whole)

unfoldable pub lint_numbers_of : Edition → List ℕ → (h n : List ℕ) → Answer LintRecords
lint_numbers_of e s h n = roomy h n (Err ListTooShort) (Ok (listing_of e s))

-- the lists afterwards: the findings' numbers at the front, the other places as they were
unfoldable pub heads_after : Edition → List ℕ → (h n : List ℕ) → List ℕ
heads_after e s h n = roomy h n h (laid (flat small_of (findings_of e s)) h)

unfoldable pub numbers_after : Edition → List ℕ → (h n : List ℕ) → List ℕ
numbers_after e s h n = roomy h n n (laid (flat numbers_of (findings_of e s)) n)
