use Rattle.read.proofs.Keys.{Given}
use Rattle.read.proofs.set_keys.Given as goal

abbrev pub invariant-loop-i : goal.invariant-loop-i
invariant-loop-i l = Given l.table l.n l.fn.keys l.fn.keyed l.keys l.keyed l.i
