-- No second answer fits a promise: two answers that say the same, in document 01's words, are the same. Assumes nothing.
use Rattle.std.proofs.Common.{◌≡◌}
use Rattle.reading.proofs.Once.{worded, answer-once}
use Rattle.report.specs.declared.LintReport.{LintReport}
use Rattle.report.specs.declared.Reading.{Reading}

-- both decoders' answers and the writer's, each by itself
pub lint-report-once : (a b : LintReport) → worded a.identity ≡ worded b.identity → worded a.timings ≡ worded b.timings → worded a.written ≡ worded b.written → a ≡ b
lint-report-once a b i t w k =
    record { identity = answer-once a.identity b.identity i k; timings = answer-once a.timings b.timings t k; written = answer-once a.written b.written w k }

pub reading-once : (a b : Reading) → worded a.answer ≡ worded b.answer → a.findings ≡ b.findings → a ≡ b
reading-once a b e f k = record { answer = answer-once a.answer b.answer e k; findings = f k }
