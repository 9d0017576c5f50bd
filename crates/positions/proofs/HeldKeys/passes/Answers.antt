use Rattle.positions.proofs.Order.{entry-slot}
use Rattle.positions.proofs.HeldKeys.passes.Goals as goal

pub bounds-self-slot : goal.bounds-self-slot
bounds-self-slot c = (c.requires.standing _ (entry-slot _ c.if-tree-place-eq0.false)).0

pub bounds-self-slot-else-self-slot : goal.bounds-self-slot-else-self-slot
bounds-self-slot-else-self-slot c = (c.requires.standing _ (entry-slot _ c.if-tree-place-eq0.false)).1
