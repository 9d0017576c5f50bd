use Rattle.removal.specs.Dead.{placed_at}
use Rattle.removal.proofs.remove_one.Goals as goal

pub returns : goal.returns
unfolding placed_at
returns c = c.remove_slot.ensures
