-- Parts of reading a report: what stands before its findings, and what is accepted. Only private functions promise in these terms.
-- Assumes nothing.
use Rattle.std.specs.Prelude.{ℕ, ◌+◌, List, ltb, eqb, length, get_or, Ok, Err}
use Rattle.reading.specs.Pick.{pick}
use Rattle.reading.specs.declared.Refusal.TheVariants.{ReportCut, ReportMalformed, ReportVersion}
use Rattle.reading.specs.Refusal.{Answer, onward}
use Rattle.findings.specs.declared.Findings.{Findings}
use Rattle.findings.specs.Hold.{holding}
use Rattle.report.specs.Form.{form_version, rest_of}
use Rattle.report.specs.Read.{Content, length_in}
use Rattle.report.specs.declared.Counted.{Counted}

-- the flags and the number of findings, where all but the findings is as it must be: the tests of `content_of`, in their order
unfoldable pub start_of : List ℕ → Answer Counted
start_of s =
    pick (ltb (length s) 2) (Err ReportCut)
    (pick (ltb (length s) (2 + length_in s)) (Err ReportCut)
    (pick (eqb (length_in s) 0) (Err ReportMalformed)
    (pick (eqb (get_or s 2 0) form_version)
    (pick (ltb (length_in s) 3) (Err ReportMalformed)
    (pick (ltb 3 (get_or s 3 0)) (Err ReportMalformed)
    (pick (ltb 15 (get_or s 4 0)) (Err ReportMalformed)
    (pick (eqb (length_in s) (rest_of (get_or s 4 0))) (Ok (record { flags = get_or s 3 0; count = get_or s 4 0 })) (Err ReportMalformed)))))
    (Err ReportVersion))))

-- what a report says, in arrays
abbrev pub accepted_of : Answer Content → Answer (Counted × Findings)
accepted_of c = onward Err c (λ r. Ok (record { flags = r.flags; count = length r.findings }, holding r.findings))
