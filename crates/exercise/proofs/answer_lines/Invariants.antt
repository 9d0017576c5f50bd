use Rattle.std.specs.Prelude.{◌≤◌}
use Rattle.exercise.proofs.answer_lines.Given as goal

abbrev pub invariant-loop-found : goal.invariant-loop-found
invariant-loop-found g l = l.lines.left ≤ l.fn.lines.left

-- each line takes one at least of what is left
abbrev pub decreases-loop-found : goal.decreases-loop-found
decreases-loop-found g l = l.lines.left
