use Rattle.unit.proofs.Vectors.{norm-is}
use Rattle.encode.proofs.Residual.{joined-norm-is, first-scale-is, second-scale-is}
use Rattle.encode.proofs.residual_scales.Goals as goal

pub returns-clause-first : goal.returns-clause-first
returns-clause-first c =
    let sums = c.sum_up-s.ensures in
    let norms = norm-is _ _ _ sums.first c.sqrt-root.ensures in
    let joins = joined-norm-is _ _ _ _ _ _ _ _ sums.first sums.cross sums.second c.at_least_floor.ensures c.sqrt-denom.ensures in
    first-scale-is _ _ _ _ _ norms joins _ c.to_bits.ensures

pub returns-clause-second : goal.returns-clause-second
returns-clause-second c =
    let sums = c.sum_up-s.ensures in
    let norms = norm-is _ _ _ sums.first c.sqrt-root.ensures in
    let joins = joined-norm-is _ _ _ _ _ _ _ _ sums.first sums.cross sums.second c.at_least_floor.ensures c.sqrt-denom.ensures in
    second-scale-is _ _ _ _ _ norms joins _ c.to_bits-2.ensures
