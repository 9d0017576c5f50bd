use Rattle.scan.specs.Pairs.{Halved}
use Rattle.scan.proofs.halve.Given as goal

abbrev pub invariant-loop-i : goal.invariant-loop-i
invariant-loop-i l = Halved l.query l.evens l.odds l.i
