use native.Mathlib.Omega.{arith}
use Rattle.lists.proofs.Writing.{written_none, written-more, written-part}
use Rattle.nearest.proofs.distances.every_second.Goals as goal

pub loop-i-init : goal.loop-i-init
loop-i-init c = written_none _ _ _ (omega arith)

pub loop-i-preserved : goal.loop-i-preserved
loop-i-preserved c = written-more _ _ _ (omega arith) c.loop-i.invariant c.loop-i-test.true

pub returns : goal.returns
returns c = written-part _ _ _ c.requires.2 c.loop-i.invariant c.loop-i-test.false
