-- What reading a report answers. Assumes nothing.
use Rattle.std.specs.Prelude.{ℕ, ◌+◌, ◌*◌, List, [], ltb, eqb, length, get_or, drop, Ok, Err}
use Rattle.reading.specs.Pick.{pick}
use Rattle.reading.specs.declared.Refusal.TheVariants.{ListTooShort, ReportCut, ReportMalformed, ReportVersion}
use Rattle.reading.specs.Lent.{listed}
use Rattle.reading.specs.Refusal.{Answer, onward}
use Rattle.findings.specs.declared.Finding.{Finding}
use Rattle.findings.specs.Hold.{holding}
use Rattle.rules.specs.Table.{all_in}
use Rattle.report.specs.Form.{head_size, form_version, rest_of, findings_in}
use Rattle.report.specs.declared.Counted.{Counted}
use Rattle.report.specs.declared.Reading.{Reading}

-- what a report says: its flags and its findings
pub record Content : Type 0 where
  pub flags : ℕ
  pub findings : List Finding

-- the count of bytes that follow the first two
abbrev pub length_in : List ℕ → ℕ
length_in s = get_or s 0 0 * 256 + get_or s 1 0

abbrev pub content_in : List ℕ → Content
content_in s = record { flags = get_or s 3 0; findings = findings_in (drop head_size s) (get_or s 4 0) }

-- 9, then length 0 (11), then 10, then the rest of 11; what stands after the report is not looked at
unfoldable pub content_of : List ℕ → Answer Content
content_of s =
    pick (ltb (length s) 2) (Err ReportCut)
    (pick (ltb (length s) (2 + length_in s)) (Err ReportCut)
    (pick (eqb (length_in s) 0) (Err ReportMalformed)
    (pick (eqb (get_or s 2 0) form_version)
    (pick (ltb (length_in s) 3) (Err ReportMalformed)
    (pick (ltb 3 (get_or s 3 0)) (Err ReportMalformed)
    (pick (ltb 15 (get_or s 4 0)) (Err ReportMalformed)
    (pick (eqb (length_in s) (rest_of (get_or s 4 0)))
    (pick (all_in (findings_in (drop head_size s) (get_or s 4 0))) (Ok (content_in s)) (Err ReportMalformed))
    (Err ReportMalformed)))))
    (Err ReportVersion))))

-- the answer: the flags and how many findings
abbrev pub counted : Answer Content → Answer Counted
counted c = onward Err c (λ r. Ok (record { flags = r.flags; count = length r.findings }))

-- the findings, none where there is no report
abbrev pub contained : Answer Content → List Finding
contained c = onward (λ t. []) c (λ r. r.findings)

abbrev pub reading_of : List ℕ → Reading
reading_of s = record { answer = counted (content_of s); findings = holding (contained (content_of s)) }

-- refusal 4 first, under fifteen places
abbrev pub read_replied : ℕ → Answer Counted → Answer Counted
read_replied len answer = pick (ltb len 15) (Err ListTooShort) answer

unfoldable pub read_of : List ℕ → (len : ℕ) → Answer Counted
read_of s len = read_replied len (counted (content_of s))

-- the lent list afterwards
unfoldable pub read_after : List ℕ → List Finding → List Finding
read_after s list = listed 15 (contained (content_of s)) list
