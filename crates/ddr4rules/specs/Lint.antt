-- Document 02, 2026-07: the findings of a DDR4 image. Three of DDR5's own rules on the DDR4 record, in order; none where the image is refused.
-- Assumes nothing.
use Rattle.std.specs.Prelude.{ℕ, List, [], ◌∷◌, ltb, length, Ok, Err}
use Rattle.reading.specs.Pick.{pick}
use Rattle.reading.specs.declared.Refusal.TheVariants.{ListTooShort}
use Rattle.reading.specs.View.{View, view}
use Rattle.reading.specs.Refusal.{Answer, onward}
use Rattle.findings.specs.declared.Finding.{Finding}
use Rattle.findings.specs.Hold.{cat, holding}
use Rattle.ddr4.specs.Module.{ddr4_at, ddr4_of}
use Rattle.ddr4.specs.declared.Ddr4.{Ddr4}
use Rattle.rules.specs.Rules.{device_count, ordering}
use Rattle.rules.specs.declared.TimingOrder.TheVariants.{RasGeRcd, RcGeRas}
use Rattle.ddr4rules.specs.declared.Ddr4Checked.{Ddr4Checked}
use Rattle.ddr4rules.specs.declared.Ddr4Linted.{Ddr4Linted}
use Rattle.ddr4rules.specs.declared.Ddr4Records.{Ddr4Records}

-- what each rule says of a record
abbrev pub ddr4_says : Ddr4 → Ddr4Checked
ddr4_says d =
    record {
      devices = device_count d.bus_width_bits d.io_width_bits;
      ras = ordering RasGeRcd d.tras d.trcd;
      rc = ordering RcGeRas d.trc d.tras;
    }

-- the findings of a record, in that order, and those of an image
abbrev pub in_order : Ddr4Checked → List Finding
in_order said = cat (said.devices ∷ said.ras ∷ said.rc ∷ [])

unfoldable pub ddr4_found : Ddr4 → List Finding
ddr4_found d = in_order (ddr4_says d)

abbrev pub ddr4_lint_at : View → List Finding
ddr4_lint_at v = onward (λ t. []) (ddr4_at v) ddr4_found

unfoldable pub ddr4_findings_of : List ℕ → List Finding
ddr4_findings_of s = ddr4_lint_at (view s)

-- an image's lint by value: what the decoder says, and the findings
abbrev pub ddr4_lint_of : List ℕ → Ddr4Linted
ddr4_lint_of s = record { ddr4 = ddr4_of s; findings = holding (ddr4_findings_of s) }

-- the same with the findings in a lent list of so many places: refusal 4 under fifteen, then the decoder's; else the record, and their count
abbrev pub ddr4_replied : (len : ℕ) → Ddr4Linted → Answer Ddr4Records
ddr4_replied len l =
    pick (ltb len 15) (Err ListTooShort)
    (onward Err l.ddr4 (λ d. Ok (record { ddr4 = d; count = l.findings.count })))

unfoldable pub ddr4_answer_of : List ℕ → List Finding → Answer Ddr4Records
ddr4_answer_of s list = ddr4_replied (length list) (ddr4_lint_of s)
