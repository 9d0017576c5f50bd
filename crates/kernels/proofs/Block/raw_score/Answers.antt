use Rattle.kernels.proofs.Bytes.{byte-sums, lone-product}
use Rattle.kernels.proofs.Wide.{index-sums}
use Rattle.kernels.proofs.Block.raw_score.Goals as goal

pub returns-then-self-ne4 : goal.returns-then-self-ne4
returns-then-self-ne4 c = index-sums _ _ _ _ _ _ c.if-self-ne4.true c.wide_lanes.ensures c.fold_four.ensures

pub returns-then-self-eq1 : goal.returns-then-self-eq1
returns-then-self-eq1 c = lone-product _ _ _ _ _ c.if-self-ne4.false c.if-self-eq1.true c.product.ensures

pub returns : goal.returns
returns c =
    byte-sums _ _ _ _ _ _ _ c.if-self-ne4.false c.if-self-eq1.false c.byte_lanes.ensures c.fold_eight.ensures c.byte_tail.ensures
