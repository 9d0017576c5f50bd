use Rattle.std.specs.Prelude.{⊤}
use Rattle.encodings.proofs.run.Given as goal

abbrev pub invariant-loop-found : goal.invariant-loop-found
invariant-loop-found g l = ⊤

-- each line takes one at least of what is left
abbrev pub decreases-loop-found : goal.decreases-loop-found
decreases-loop-found g l = l.lines.left
