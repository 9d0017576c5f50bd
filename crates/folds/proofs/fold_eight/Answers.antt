use borrow.Author.Rules.{rules}
use mathlib.Core.Path.{◌∙◌}
use Rattle.score.specs.Lanes.{pair_sums, bracketed}
use Rattle.score.proofs.Lanes.{bracketed-eight}
use Rattle.folds.proofs.fold_eight.Goals as goal

pub returns : goal.returns
unfolding bracketed pair_sums
returns c = c.fold_four.ensures ∙ bracketed-eight c.args.acc (search rules)
