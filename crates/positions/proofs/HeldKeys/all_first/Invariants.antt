use Rattle.positions.specs.Decides.{Decides}
use Rattle.positions.specs.Ordered.{AllFirst}
use Rattle.positions.proofs.HeldKeys.all_first.Given as goal

abbrev pub invariant-loop-position : goal.invariant-loop-position
invariant-loop-position l = Decides l.all (AllFirst l.self.held.now l.position-index)
