-- `report::accept` meets its contract: what follows the start is the findings, and whether they are the table's. The search leaves it open. Assumes nothing.
use Rattle.std.specs.Prelude.{Ok, Err}
use Rattle.std.specs.List.{list_all}
use Rattle.std.proofs.Common.{rules, ℕ, List, ◌≡◌, ◌∙◌, ◌-◌, length, drop, take, sym, ap, arith, take_all, length-drop, true, false}
use Rattle.reading.specs.declared.Refusal.TheVariants.{ReportMalformed}
use Rattle.findings.specs.Hold.{holding}
use Rattle.findings.specs.declared.Finding.{Finding}
use Rattle.findings.specs.declared.Findings.{Findings}
use Rattle.findings.proofs.Laws.{list_held}
use Rattle.rules.specs.Table.{in_table, all_in}
use Rattle.report.specs.Form.{head_size, findings_in}
use Rattle.report.specs.Read.{content_of}
use Rattle.report.specs.Body.{start_of, accepted_of}
use Rattle.report.specs.declared.Counted.{Counted}
use Rattle.report.proofs.Turns.{each_in, length-findings}
use Rattle.report.proofs.Stated.{by_start}
use Rattle.report.proofs.accept.Goals as goal

module _ (s : List ℕ) (r : Counted) (e : start_of s ≡ Ok r) (f : Findings) (body : f ≡ holding (findings_in (take (length s - head_size) (drop head_size s)) r.count)) where
  abbrev listed : List Finding
  listed = findings_in (drop head_size s) r.count

  whole : f ≡ holding listed
  whole = body ∙ ap (λ t. holding (findings_in t r.count)) (take_all (length s - head_size) (drop head_size s) (omega (arith, length-drop head_size s)))

  front : take r.count f.items ≡ listed
  unfolding holding
  front =
      let n : r.count ≡ length listed = sym (length-findings r.count (drop head_size s)) in
      ap (λ (g : Findings). take r.count g.items) whole ∙ ap (λ k. take k (holding listed).items) n ∙ list_held listed

  tested : list_all in_table (take r.count f.items) ≡ all_in listed
  tested = ap (list_all in_table) front ∙ each_in listed

  refuses : list_all in_table (take r.count f.items) ≡ false → Err ReportMalformed ≡ accepted_of (content_of s)
  refuses h = let no : all_in listed ≡ false = sym tested ∙ h in rw (by_start s, e, no)

  accepts : list_all in_table (take r.count f.items) ≡ true → Ok (r, f) ≡ accepted_of (content_of s)
  accepts h =
      let yes : all_in listed ≡ true = sym tested ∙ h in
      rw (by_start s, e, yes, whole, length-findings r.count (drop head_size s))

pub returns-in_err-start : goal.returns-in_err-start
returns-in_err-start c =
    let e : start_of c.args.bytes.now ≡ Err c.in_err-start.field-0.0 = sym c.read_start.ensures.start ∙ c.in_err-start.was in
    rw (by_start c.args.bytes.now, e) (search rules)

pub returns-then-not-all_in : goal.returns-then-not-all_in
returns-then-not-all_in c =
    refuses c.args.bytes.now c.in_ok-start.start (sym c.read_start.ensures.start ∙ c.in_ok-start.was) c.read_body-findings.result c.read_body-findings.ensures (sym c.all_in.ensures ∙ c.if-not-all_in.true)

pub returns : goal.returns
returns c =
    accepts c.args.bytes.now c.in_ok-start.start (sym c.read_start.ensures.start ∙ c.in_ok-start.was) c.read_body-findings.result c.read_body-findings.ensures (sym c.all_in.ensures ∙ c.if-not-all_in.false)
