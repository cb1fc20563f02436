-- The findings of an image, part by part: the regions', the identity's and the timings'. Assumes nothing.
use Rattle.std.proofs.Common.{◌≡◌, ℕ, List, [], ◌∷◌, ◌++◌, map, Option, refl, arith}
use Rattle.reading.specs.View.{view}
use Rattle.reading.specs.Refusal.{Answer}
use Rattle.findings.specs.declared.Finding.{Finding}
use Rattle.findings.specs.Hold.{cat}
use Rattle.findings.proofs.Laws.{cat-append}
use Rattle.decoders.specs.Identity.{identity_of}
use Rattle.decoders.specs.Timing.{timings_of}
use Rattle.rules.specs.Regions.{region_rules}
use Rattle.rules.specs.Rules.{identity_rules, timing_rules, each}
use Rattle.rules.specs.Parts.{of_answer}
use Rattle.rules.specs.Lint.{on_given, lint_at, findings_of}
use Rattle.rules.specs.declared.Edition.{Edition}

given : {A : Type 0} (rules : List (A → Option Finding)) (x : Answer A) → cat (each (map on_given rules) x) ≡ of_answer rules x
given [] x = grind arith
given (rule ∷ rules) x = grind (arith, given rules x)

pub in_parts : (e : Edition) (s : List ℕ) → findings_of e s ≡ cat (each region_rules (view s)) ++ (of_answer identity_rules (identity_of s) ++ of_answer (timing_rules e) (timings_of s))
unfolding lint_at identity_of timings_of
in_parts e s =
    rw (← given identity_rules (identity_of s), ← given (timing_rules e) (timings_of s))
    (rw (
      ← cat-append (each (map on_given identity_rules) (identity_of s)) (each (map on_given (timing_rules e)) (timings_of s)),
      ← cat-append (each region_rules (view s)) (each (map on_given identity_rules) (identity_of s) ++ each (map on_given (timing_rules e)) (timings_of s)),
    ) refl)
