use Rattle.nearest.proofs.Marking.{Marking}
use Rattle.nearest.proofs.Limit.mark_group.Given as goal

-- The marks of the slots so far, and how many of them are at the limit.
abbrev pub invariant-loop-j : goal.invariant-loop-j
invariant-loop-j l = Marking l.distances l.self.distance l.self.ties l.first l.word l.all_seen l.j
