-- Findings as a list, and the array of fifteen with a count that holds one. Assumes nothing.
use Rattle.std.specs.Prelude.{◌-◌, List, [], ◌∷◌, ◌++◌, length, replicate, Option, Some, None}
use Rattle.findings.specs.declared.Severity.{Severity}
use Rattle.findings.specs.declared.Finding.{Finding}
use Rattle.findings.specs.declared.Findings.{Findings}

-- the finding that says nothing, which stands in a place that is not in use
abbrev pub blank_finding : Finding
blank_finding = record { code = 0; severity = Severity.Error; sub = 0; first = 0; second = 0; third = 0 }

-- fifteen places, none in use
abbrev pub blank_items : List Finding
blank_items = replicate 15 blank_finding

-- the array and the count that hold a list of at most fifteen: the places past it are blank
unfoldable pub holding : List Finding → Findings
holding l = record { items = l ++ replicate (15 - length l) blank_finding; count = length l }

-- what one rule's answer adds
abbrev pub to_list : Option Finding → List Finding
to_list None = []
to_list (Some x) = x ∷ []

-- the findings among a row of rules' answers, in order
abbrev pub cat : List (Option Finding) → List Finding
cat [] = []
cat (x ∷ xs) = to_list x ++ cat xs
