-- No second answer fits a promise: two answers that say the same, in document 01's words, are the same. Assumes nothing.
use Rattle.std.proofs.Common.{◌≡◌, ℕ, Result, Ok, Err, ap, arith}
use Rattle.reading.specs.Refusal.{Told, told, Answer}
use Rattle.reading.proofs.Once.{worded, answer-once, told-once}
use Rattle.decoders.specs.declared.identity.IdentityAndBase.{IdentityAndBase}
use Rattle.decoders.specs.declared.timing.Timings.{Timings}
use Rattle.rules.specs.declared.Linted.{Linted}
use Rattle.rules.specs.declared.LintRecords.{LintRecords}

-- both decoders' answers, each by itself, and the findings or their count
pub lint-once : (a b : Linted) → worded a.identity ≡ worded b.identity → worded a.timings ≡ worded b.timings → a.findings ≡ b.findings → a ≡ b
lint-once a b i t f k =
    record { identity = answer-once a.identity b.identity i k; timings = answer-once a.timings b.timings t k; findings = f k }

pub listing-once : (a b : LintRecords) → worded a.identity ≡ worded b.identity → worded a.timings ≡ worded b.timings → a.count ≡ b.count → a ≡ b
listing-once a b i t n k =
    record { identity = answer-once a.identity b.identity i k; timings = answer-once a.timings b.timings t k; count = n k }

-- the same of an answer that may be refused whole: what it says, the refusals inside it in words too
abbrev pub worded_records : LintRecords → Result IdentityAndBase Told × Result Timings Told × ℕ
worded_records r = (worded r.identity, worded r.timings, r.count)

abbrev pub worded_listing : Answer LintRecords → Result (Result IdentityAndBase Told × Result Timings Told × ℕ) Told
worded_listing (Ok r) = Ok (worded_records r)
worded_listing (Err why) = Err (told why)

pub lint-answer-once : (a b : Answer LintRecords) → worded_listing a ≡ worded_listing b → a ≡ b
lint-answer-once (Ok r) (Ok s) e =
    let p : worded_records r ≡ worded_records s = cc in
    ap Ok (listing-once r s (ap (λ t. t.0) p) (ap (λ t. t.1) p) (ap (λ t. t.2) p))
lint-answer-once (Ok r) (Err why) e = let z : ◌≡◌ {A = ℕ} 0 1 = cc in absurd (omega arith)
lint-answer-once (Err why) (Ok s) e = let z : ◌≡◌ {A = ℕ} 0 1 = cc in absurd (omega arith)
lint-answer-once (Err why) (Err other) e = ap Err (told-once why other (cc))
