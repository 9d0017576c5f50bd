use mathlib.Core.Path.{sym}
use native.Mathlib.Omega.{arith}
use lib.Seq.{set_out}
use Rattle.marks.proofs.Words.{length-marks, marks-set}
use Rattle.marks.proofs.set_live_mark.Goals as goal

pub returns-then-i-alive : goal.returns-then-i-alive
returns-then-i-alive c = marks-set c.args.alive.now c.args.slot _ _ c.if-i-alive.true c.with_bit.ensures

pub returns-else-i-alive : goal.returns-else-i-alive
returns-else-i-alive c = sym (set_out _ _ _ (omega (arith, length-marks c.args.alive.now, c.if-i-alive.false)))
