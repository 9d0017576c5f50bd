use Rattle.kernels.proofs.Wide.{four-start, four-again, four-end}
use Rattle.kernels.proofs.Block.wide_lanes.Goals as goal

pub loop-i-init : goal.loop-i-init
loop-i-init c = four-start _ _ _ _

pub loop-i-preserved : goal.loop-i-preserved
loop-i-preserved c = four-again _ _ _ _ _ _ _ _ c.loop-i.invariant c.loop-i-test.true c.product.ensures c.wide_step-next.ensures

pub returns : goal.returns
returns c = four-end _ _ _ _ _ _ c.loop-i.invariant c.loop-i-test.false
