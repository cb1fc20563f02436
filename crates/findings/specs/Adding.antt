-- One finding more behind those that an array holds. Only private functions promise in these terms. Assumes nothing.
use Rattle.std.specs.Prelude.{◌+◌, set, Option, Some, None}
use Rattle.findings.specs.declared.Finding.{Finding}
use Rattle.findings.specs.declared.Findings.{Findings}

abbrev pub added : Findings → Option Finding → Findings
added f None = f
added f (Some x) = record { items = set f.items f.count x; count = f.count + 1 }
