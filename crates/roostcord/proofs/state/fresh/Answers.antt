-- `roostcord::state::fresh` meets its contract: zeros, and the edition's bit in the second byte. The search leaves it open. Assumes nothing.
use Rattle.std.proofs.Common.{refl, le-ltb, length, zero-add}
use Rattle.roostcord.specs.State.{state_size, fresh_after}
use Rattle.roostcord.proofs.state.fresh.Goals as goal

pub returns-clause-later : goal.returns-clause-later
unfolding fresh_after
returns-clause-later c =
    rw (← c.edition_of.ensures, c.in_ok-edition.was, le-ltb (length c.args.state.now) state_size c.if-state-lt-STATE_SIZE.false, c.copy_from_slice.ensures.after, c.mark.ensures, zero-add) refl
