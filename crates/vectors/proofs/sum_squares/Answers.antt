use Rattle.vectors.proofs.Sums.{squares-none, squares-next}
use borrow.Author.Rules.{rules}
use Rattle.vectors.proofs.sum_squares.Goals as goal

pub loop-x-init : goal.loop-x-init
loop-x-init c = squares-none _

pub loop-x-preserved : goal.loop-x-preserved
loop-x-preserved c = squares-next _ _ _ c.loop-x.invariant (search rules)
