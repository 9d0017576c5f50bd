use Rattle.index.specs.Read.{entry_from}
use Rattle.read.proofs.Once.{Marked}
use Rattle.read.proofs.each_once.Given as goal

abbrev pub invariant-loop-i : goal.invariant-loop-i
invariant-loop-i l = Marked (λ j. (entry_from l.table j).slot) l.n l.entries l.seen l.i
