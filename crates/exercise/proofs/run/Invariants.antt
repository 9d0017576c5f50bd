use Rattle.std.specs.Prelude.{⊤}
use Rattle.exercise.proofs.run.Given as goal

abbrev pub invariant-loop-next : goal.invariant-loop-next
invariant-loop-next g l = ⊤

-- each stretch of lines takes one at least of what is left
abbrev pub decreases-loop-next : goal.decreases-loop-next
decreases-loop-next g l = l.lines.left
