use Rattle.marks.specs.Live.{marks_in}
use Rattle.nearest.specs.Lanes.{slot_apart}
use Rattle.nearest.proofs.Groups.{WrittenGroups}
use Rattle.nearest.proofs.distances.Tops.write_distances.Given as goal

abbrev pub invariant-loop-group : goal.invariant-loop-group
invariant-loop-group l = WrittenGroups (slot_apart l.codes (marks_in l.alive) l.size l.self.all.now l.self.lanes) l.n l.group l.initial.distances l.distances
