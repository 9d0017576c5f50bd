use Rattle.std.proofs.Common.{rules}
use Rattle.positions.specs.Tree.{mixed, root_of}
use Rattle.positions.proofs.tree.root.Goals as goal

pub returns : goal.returns
unfolding mixed root_of
returns c = search rules
