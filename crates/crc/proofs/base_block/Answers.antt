-- `crc::base_block` meets its contract: the read that is told has the bytes of its block. The search leaves it open. Assumes nothing.
use Rattle.std.proofs.Common.{sym, ap, ◌∙◌, Ok, arith}
use Rattle.crc.proofs.Base.{of_first, of_second}
use Rattle.crc.proofs.base_block.Goals as goal

pub front-requires : goal.front-requires
front-requires c = omega (arith, (of_first c.args.first.now c.args.second.now (sym c.sound_read.ensures ∙ c.in-Ok-First.is ∙ ap Ok c.in-Ok-First.field-0-is)).0)

pub front-requires-in-Ok-Second : goal.front-requires-in-Ok-Second
front-requires-in-Ok-Second c = omega (arith, (of_second c.args.first.now c.args.second.now (sym c.sound_read.ensures ∙ c.in-Ok-Second.is ∙ ap Ok c.in-Ok-Second.field-0-is)).0)
