-- `crc::crc16_rest` meets its contract: what the fold gives is the definition's. The search leaves it open. Assumes nothing.
use Rattle.std.proofs.Common.{rules, ◌≡◌, ◌∙◌, fold}
use Rattle.crc.specs.Crc.{byte_in}
use Rattle.crc.proofs.Eights.{in_turn}
use Rattle.crc.proofs.crc16_rest.Goals as goal

pub returns : goal.returns
returns c =
    let folded : c.fold.result ≡ fold byte_in c.args.before c.args.bytes.now = search rules in
    folded ∙ in_turn c.args.before c.args.bytes.now
