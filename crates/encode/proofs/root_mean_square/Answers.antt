use Rattle.encode.proofs.Residual.{root-mean-square-is}
use Rattle.encode.proofs.root_mean_square.Goals as goal

pub returns : goal.returns
returns c = root-mean-square-is _ _ _ _ c.sum_squares-sum.ensures c.at_least_floor.ensures c.sqrt.ensures
