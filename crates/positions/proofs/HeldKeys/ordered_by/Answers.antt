use Rattle.positions.proofs.Order.{ordered-if}
use Rattle.positions.proofs.HeldKeys.ordered_by.Goals as goal

pub returns-else-all_first : goal.returns-else-all_first
returns-else-all_first c = ordered-if _ _ _ (c.enter_all.ensures.yes c.if-enter_all.true).1 c.are_preceded.ensures
