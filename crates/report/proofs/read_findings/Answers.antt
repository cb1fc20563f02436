-- `report::read_findings` meets its contract. The search leaves it open. Assumes nothing.
use Rattle.std.specs.Prelude.{Ok, Err}
use Rattle.std.proofs.Common.{[], ◌≡◌, ◌∙◌, sym}
use Rattle.reading.specs.Refusal.{Answer}
use Rattle.reading.specs.declared.Refusal.{Refusal}
use Rattle.findings.specs.Hold.{holding}
use Rattle.report.specs.Read.{Content, content_of, counted, contained}
use Rattle.report.specs.Body.{accepted_of}
use Rattle.report.specs.declared.Reading.{Reading}
use Rattle.report.proofs.read_findings.Goals as goal

none : (v : Answer Content) {why : Refusal} → accepted_of v ≡ Err why → ◌≡◌ {A = Reading} (record { answer = Err why; findings = holding [] }) (record { answer = counted v; findings = holding (contained v) })
none (Ok c) e = cc
none (Err t) {why} e = let same : t ≡ why = cc in rw same

pub returns-in-Err : goal.returns-in-Err
unfolding holding
returns-in-Err c = rw c.blanks.ensures (none (content_of c.args.bytes.now) (sym c.accept.ensures ∙ c.in-Err.is))
