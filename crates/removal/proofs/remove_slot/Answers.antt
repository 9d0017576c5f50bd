use Rattle.removal.specs.Dead.{dead_at}
use Rattle.removal.proofs.remove_slot.Goals as goal

pub returns : goal.returns
unfolding dead_at
returns c = rw c.set_live_mark.ensures
