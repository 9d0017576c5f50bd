use Rattle.hits.proofs.Entering.{entered-scores}
use Rattle.hits.proofs.enter_slots.Goals as goal

pub returns : goal.returns
returns c = entered-scores c.requires.2 c.score_slots.ensures c.enter_orders.ensures
