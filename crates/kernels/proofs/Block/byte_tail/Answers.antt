use Rattle.kernels.proofs.Bytes.{tail-start, tail-again, tail-end}
use Rattle.kernels.proofs.Block.byte_tail.Goals as goal

pub loop-i-init : goal.loop-i-init
loop-i-init c = tail-start _ _ _

pub loop-i-preserved : goal.loop-i-preserved
loop-i-preserved c = tail-again _ _ _ _ _ _ c.loop-i.invariant c.loop-i-test.true c.byte_term-tail.ensures

pub returns : goal.returns
returns c = tail-end _ _ _ _ _ c.loop-i.invariant c.loop-i-test.false
