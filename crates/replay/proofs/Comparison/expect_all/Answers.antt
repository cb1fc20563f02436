-- `replay::Comparison::expect_all` meets its contract: number by number is all of them. The search leaves it open. Assumes nothing.
use Rattle.std.specs.Prelude.{fold}
use Rattle.std.proofs.Common.{rules, ◌≡◌, [], ◌∷◌, ◌∙◌}
use Rattle.replay.specs.Held.{compared}
use Rattle.replay.proofs.Rows.{one_by_one}
use Rattle.replay.proofs.Comparison.expect_all.Goals as goal

pub returns : goal.returns
returns c =
    let e : c.fold.result ≡ fold (λ so_far n. compared so_far (n ∷ [])) c.args.self c.args.ours.now = search rules in
    e ∙ one_by_one c.args.self c.args.ours.now
