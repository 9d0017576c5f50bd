use Rattle.nearest.proofs.Marking.{Marks}
use Rattle.nearest.proofs.Limit.mark.Given as goal

abbrev pub invariant-loop-i : goal.invariant-loop-i
invariant-loop-i l = Marks l.distances l.self.distance l.self.ties l.initial.marks l.marks l.seen l.i
