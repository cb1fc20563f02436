-- `replay::Comparison::expect_row` meets its contract: finding by finding is all of them. The search leaves it open. Assumes nothing.
use Rattle.std.specs.Prelude.{fold}
use Rattle.std.proofs.Common.{rules, ◌≡◌, ◌∙◌}
use Rattle.replay.specs.Held.{compared}
use Rattle.replay.specs.Answers.{finding_record}
use Rattle.replay.proofs.Rows.{row_by_row}
use Rattle.replay.proofs.Comparison.expect_row.Goals as goal

pub returns : goal.returns
returns c =
    let e : c.fold.result ≡ fold (λ so_far f. compared so_far (finding_record f)) c.args.self c.args.row.now = search rules in
    e ∙ row_by_row c.args.self c.args.row.now
