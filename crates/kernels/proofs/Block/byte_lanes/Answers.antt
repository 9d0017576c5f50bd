use Rattle.kernels.proofs.Bytes.{eight-start, eight-again}
use Rattle.kernels.proofs.Block.byte_lanes.Goals as goal

pub loop-group-init : goal.loop-group-init
loop-group-init c = eight-start _ _ _

pub loop-group-preserved : goal.loop-group-preserved
loop-group-preserved c = eight-again _ _ _ _ _ _ c.loop-group.invariant c.loop-group-test.true c.byte_step-next.ensures
