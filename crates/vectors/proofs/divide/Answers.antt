use Rattle.vectors.proofs.Filling.{divided-none, divided-next}
use borrow.Author.Rules.{rules}
use Rattle.vectors.proofs.divide.Goals as goal

pub loop-x-init : goal.loop-x-init
loop-x-init c = divided-none _ _

pub loop-x-preserved : goal.loop-x-preserved
loop-x-preserved c = divided-next _ _ _ _ c.loop-x.invariant (search rules)
