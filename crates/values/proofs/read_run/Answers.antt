use Rattle.std.proofs.Common.{arith}
use Rattle.lists.proofs.Writing.{written_none, written-more, written-part}
use Rattle.values.proofs.read_run.Goals as goal

pub loop-i-init : goal.loop-i-init
loop-i-init g c = written_none _ _ _ (omega arith)

pub loop-i-preserved : goal.loop-i-preserved
loop-i-preserved g c =
    let here = written-more _ _ _ (omega arith) c.loop-i.invariant c.loop-i-test.true in
    rw (c.of_number.ensures, c.number_in.ensures.0, c.DIGITS-in-loop-i.ensures) here

pub returns-clause-read : goal.returns-clause-read
returns-clause-read g c = written-part _ _ _ c.in_ok-n.ensures.run.fits c.loop-i.invariant c.loop-i-test.false
