-- What writing a report answers, and what stands in the buffer afterwards. Assumes nothing.
use Rattle.std.specs.Prelude.{ℕ, ◌+◌, ◌*◌, List, ltb, length, take, Ok, Err}
use Rattle.reading.specs.Pick.{pick}
use Rattle.reading.specs.declared.Refusal.TheVariants.{BufferTooSmall, NotReportable}
use Rattle.reading.specs.Refusal.{Answer}
use Rattle.reading.specs.Lent.{laid}
use Rattle.findings.specs.declared.Finding.{Finding}
use Rattle.findings.specs.declared.Findings.{Findings}
use Rattle.decoders.specs.Identity.{identity_of}
use Rattle.decoders.specs.Timing.{timings_of}
use Rattle.rules.specs.declared.Edition.{Edition}
use Rattle.rules.specs.Table.{all_in}
use Rattle.rules.specs.Lint.{findings_of}
use Rattle.report.specs.Form.{rest_of, report_of}
use Rattle.decoders.specs.declared.identity.IdentityAndBase.{IdentityAndBase}
use Rattle.decoders.specs.declared.timing.Timings.{Timings}
use Rattle.report.specs.declared.LintReport.{LintReport}

-- n findings into so much room
abbrev pub fitted : (n room : ℕ) → Answer ℕ
fitted n room = pick (ltb room (rest_of n + 2)) (Err BufferTooSmall) (Ok (rest_of n + 2))

-- 12 for a list over fifteen, flags over 3 or a finding outside the table; then 8
unfoldable pub write_of : (flags : ℕ) → List Finding → (room : ℕ) → Answer ℕ
write_of flags l room =
    pick (ltb 15 (length l)) (Err NotReportable)
    (pick (ltb 3 flags) (Err NotReportable)
    (pick (all_in l) (fitted (length l) room) (Err NotReportable)))

-- findings by value: a count over fifteen is a list over fifteen
unfoldable pub found_of : (flags : ℕ) → Findings → (room : ℕ) → Answer ℕ
found_of flags f room =
    pick (ltb 15 f.count) (Err NotReportable) (write_of flags (take f.count f.items) room)

-- the buffer afterwards: the report at its front, or as it was
unfoldable pub written_over : Answer ℕ → (flags : ℕ) → List Finding → List ℕ → List ℕ
written_over (Ok n) flags l out = laid (report_of flags l) out
written_over (Err t) flags l out = out

-- bit 0: identity decoded; bit 1: timings decoded
abbrev pub decoded : {A : Type 0} → Answer A → ℕ
decoded (Ok a) = 1
decoded (Err t) = 0

abbrev pub flags_for : {A B : Type 0} → Answer A → Answer B → ℕ
flags_for identity timings = decoded identity + 2 * decoded timings

abbrev pub flags_of : Answer IdentityAndBase → Answer Timings → ℕ
flags_of identity timings = flags_for identity timings

-- the bytes of an image's report under an edition: want of room is the only refusal
unfoldable pub lint_report_of : Edition → List ℕ → (room : ℕ) → Answer ℕ
lint_report_of e s room = fitted (length (findings_of e s)) room

-- the whole answer: what each decoder says of the image, its refusal with number and values included, and the bytes written
abbrev pub reported_of : Edition → List ℕ → (room : ℕ) → LintReport
reported_of e s room = record { identity = identity_of s; timings = timings_of s; written = lint_report_of e s room }

-- the buffer afterwards
unfoldable pub lint_report_after : Edition → List ℕ → List ℕ → List ℕ
lint_report_after e s out =
    written_over (lint_report_of e s (length out)) (flags_for (identity_of s) (timings_of s)) (findings_of e s) out
