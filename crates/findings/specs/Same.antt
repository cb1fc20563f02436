-- A severity as a number, and when two findings are the same. Assumes nothing.
use Rattle.std.specs.Prelude.{ℕ, Bool, eqb}
use Rattle.reading.specs.Pick.{and}
use Rattle.findings.specs.declared.Severity.{Severity}
use Rattle.findings.specs.declared.Severity.TheVariants.{Error, Warning, Info}
use Rattle.findings.specs.declared.Finding.{Finding}

abbrev pub severity_number : Severity → ℕ
severity_number Error = 0
severity_number Warning = 1
severity_number Info = 2

abbrev pub same_severity : Severity → Severity → Bool
same_severity a b = eqb (severity_number a) (severity_number b)

abbrev pub same_numbers : Finding → Finding → Bool
same_numbers a b = and (eqb a.first b.first) (and (eqb a.second b.second) (eqb a.third b.third))

-- every part of the one is the other's
unfoldable pub same_finding : Finding → Finding → Bool
same_finding a b =
    and (eqb a.code b.code) (and (same_severity a.severity b.severity) (and (eqb a.sub b.sub) (same_numbers a b)))
