-- Two findings are the same exactly where they are equal. Assumes nothing.
use mathlib.Core.Path.{◌≡◌}
use mathlib.Core.Bool.{true}
use native.Mathlib.Omega.{arith}
use Rattle.findings.specs.Same.{same_severity, same_finding}
use Rattle.findings.specs.declared.Severity.{Severity}
use Rattle.findings.specs.declared.Finding.{Finding}

pub same-severity-is : (a b : Severity) → same_severity a b ≡ true → a ≡ b
same-severity-is a b e = grind arith

pub same-finding-is : (a b : Finding) → same_finding a b ≡ true → a ≡ b
unfolding same_finding
same-finding-is a b e = grind arith

pub same-finding-self : (a : Finding) → same_finding a a ≡ true
unfolding same_finding
same-finding-self a = grind arith
