use Rattle.encode.proofs.Filling.{differences-none, differences-next}
use borrow.Author.Rules.{rules}
use Rattle.encode.proofs.subtract.Goals as goal

pub loop-i-init : goal.loop-i-init
loop-i-init c = differences-none _ _ _ c.requires.0 c.requires.1

pub loop-i-preserved : goal.loop-i-preserved
loop-i-preserved c = differences-next _ _ _ _ _ c.requires.0 c.loop-i.invariant (search rules)
