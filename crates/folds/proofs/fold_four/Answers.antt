use borrow.Author.Rules.{rules}
use Rattle.score.proofs.Lanes.{bracketed-four}
use Rattle.folds.proofs.fold_four.Goals as goal

pub returns : goal.returns
returns c = bracketed-four _ (search rules)
