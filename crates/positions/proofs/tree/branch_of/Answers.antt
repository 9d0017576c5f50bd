use Rattle.std.proofs.Common.{rules}
use Rattle.positions.specs.Tree.{branch}
use Rattle.positions.proofs.tree.branch_of.Goals as goal

pub returns : goal.returns
unfolding branch
returns c = search rules
