use Rattle.std.proofs.Common.{sym, arith}
use Rattle.lloyd.specs.Tables.{by_width}
use Rattle.lloyd.proofs.Widths.{by-other}
use Rattle.lloyd.proofs.by_width.Goals as goal

pub returns-in-4 : goal.returns-in-4
unfolding by_width
returns-in-4 g c = rw c.in-4.is

pub returns-in-5 : goal.returns-in-5
unfolding by_width
returns-in-5 g c = rw c.in-5.is

pub returns-in-6 : goal.returns-in-6
unfolding by_width
returns-in-6 g c = rw c.in-6.is

pub returns-in_default : goal.returns-in_default
returns-in_default g c = let a = c.args in sym (by-other a.bits (omega arith) (omega arith) (omega arith) a.four a.five a.six a.other)
