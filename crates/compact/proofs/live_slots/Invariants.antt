use Rattle.compact.proofs.Gathering.{Listed}
use Rattle.marks.specs.Live.{marks_in}
use Rattle.compact.proofs.live_slots.Given as goal

abbrev pub invariant-loop-i : goal.invariant-loop-i
invariant-loop-i l = Listed (marks_in l.alive) l.i l.initial.slots l.slots l.many
