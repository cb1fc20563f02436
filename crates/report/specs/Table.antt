-- The rows of the report table by their limits, and a finding within them. Only private functions promise in these terms. Assumes nothing.
use Rattle.std.specs.Prelude.{ℕ, ◌^◌, ◌<◌, ◌≡◌, Bool, leb}
use Rattle.reading.specs.Pick.{and}
use Rattle.findings.specs.Same.{same_severity}
use Rattle.findings.specs.declared.Finding.{Finding}
use Rattle.rules.specs.Table.{Row}
use Rattle.report.specs.declared.Limits.{Limits}

-- the row takes what its limits say, of numbers of 32 bits
pub record IsLimited (r : Row) (l : Limits) : Type 0 where
  pub severity : l.severity ≡ r.severity
  pub sub : (n : ℕ) → and (leb l.subs.0 n) (leb n l.subs.1) ≡ r.sub n
  pub first : (n : ℕ) → n < 2 ^ 32 → leb n l.most.0 ≡ r.first n
  pub second : (n : ℕ) → n < 2 ^ 32 → leb n l.most.1 ≡ r.second n
  pub third : (n : ℕ) → n < 2 ^ 32 → leb n l.most.2 ≡ r.third n

abbrev pub in_limits : Limits → Finding → Bool
in_limits l f =
    and (same_severity l.severity f.severity)
    (and (and (leb l.subs.0 f.sub) (leb f.sub l.subs.1))
    (and (leb f.first l.most.0)
    (and (leb f.second l.most.1)
    (leb f.third l.most.2))))
