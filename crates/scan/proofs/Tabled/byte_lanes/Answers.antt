use Rattle.scan.proofs.Kernels.{lanes-none, bytes-again, bytes-end}
use Rattle.scan.proofs.Tabled.byte_lanes.Goals as goal

pub loop-group-init : goal.loop-group-init
loop-group-init c = (lanes-none _).0

pub loop-group-preserved : goal.loop-group-preserved
loop-group-preserved c = bytes-again _ _ _ _ _ _ _ c.loop-group.invariant c.loop-group-test.true c.byte_step-next.ensures

pub returns : goal.returns
returns c = bytes-end _ _ _ _ _ _ c.loop-group.invariant c.requires.0 c.loop-group-test.false
