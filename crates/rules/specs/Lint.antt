-- The findings of an image under an edition: every rule's answer, in document 01's order; a rule on a record is silent where its decoder
-- refused. Assumes nothing.
use Rattle.std.specs.Prelude.{ℕ, List, ◌++◌, map, eqb, ltb, length, Option, None, Ok, Err}
use Rattle.reading.specs.Pick.{pick}
use Rattle.reading.specs.declared.Refusal.TheVariants.{ListTooShort, UnknownEdition}
use Rattle.reading.specs.View.{View, view}
use Rattle.reading.specs.Refusal.{Answer}
use Rattle.findings.specs.declared.Finding.{Finding}
use Rattle.findings.specs.Hold.{cat, holding}
use Rattle.decoders.specs.Identity.{identity_at, identity_of}
use Rattle.decoders.specs.Timing.{timings_at, timings_of}
use Rattle.rules.specs.Regions.{region_rules}
use Rattle.rules.specs.Rules.{identity_rules, timing_rules, rated_rules, each}
use Rattle.rules.specs.declared.Edition.{Edition}
use Rattle.rules.specs.declared.Edition.TheVariants.{First, Second}
use Rattle.rules.specs.declared.RatedTimings.{RatedTimings}
use Rattle.rules.specs.declared.Linted.{Linted}
use Rattle.rules.specs.declared.LintRecords.{LintRecords}

-- the edition of a number; refusal 14 where it is neither 1 nor 2
abbrev pub edition_of : ℕ → Answer Edition
edition_of n = pick (eqb n 1) (Ok First) (pick (eqb n 2) (Ok Second) (Err UnknownEdition))

-- a rule on a record, as a rule on what the decoder said
abbrev pub on_given : {A : Type 0} → (A → Option Finding) → Answer A → Option Finding
on_given rule (Ok a) = rule a
on_given rule (Err t) = None

-- all sixteen rules
abbrev pub lint_rules : Edition → List (View → Option Finding)
lint_rules e =
    region_rules
    ++ (map (λ rule v. on_given rule (identity_at v)) identity_rules
    ++ map (λ rule v. on_given rule (timings_at v)) (timing_rules e))

unfoldable pub lint_at : Edition → View → List Finding
lint_at e v = cat (each (lint_rules e) v)

-- the findings of an image
abbrev pub findings_of : Edition → List ℕ → List Finding
findings_of e s = lint_at e (view s)

-- an image's lint: what both decoders say, and the findings
abbrev pub lint_of : Edition → List ℕ → Linted
lint_of e s = record { identity = identity_of s; timings = timings_of s; findings = holding (findings_of e s) }

-- the same with the findings in a lent list: their count in the answer
abbrev pub listing : Linted → LintRecords
listing l = record { identity = l.identity; timings = l.timings; count = l.findings.count }

abbrev pub listing_of : Edition → List ℕ → LintRecords
listing_of e s = listing (lint_of e s)

-- a lint, as it is answered for a list of so many places: refusal 4 under fifteen
abbrev pub replied : (len : ℕ) → Linted → Answer LintRecords
replied len l = pick (ltb len 15) (Err ListTooShort) (Ok (listing l))

unfoldable pub lint_answer_of : Edition → List ℕ → List Finding → Answer LintRecords
lint_answer_of e s list = replied (length list) (lint_of e s)

-- the findings of a rated profile
unfoldable pub rated_findings : Edition → RatedTimings → List Finding
rated_findings e r = cat (each (rated_rules e) r)

-- their count, as it is answered for a list of so many places: refusal 4 under five
abbrev pub rated_replied : (len count : ℕ) → Answer ℕ
rated_replied len count = pick (ltb len 5) (Err ListTooShort) (Ok count)

unfoldable pub rated_of : Edition → RatedTimings → List Finding → Answer ℕ
rated_of e r list = rated_replied (length list) (length (rated_findings e r))
