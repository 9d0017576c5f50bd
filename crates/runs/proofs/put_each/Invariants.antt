use Rattle.runs.proofs.Runs.{First}
use Rattle.runs.proofs.put_each.Given as goal

abbrev pub invariant-loop-x : goal.invariant-loop-x
invariant-loop-x g l = First g.T.InHex.DIGITS g.T.InHex.number l.xs l.x-index l.initial.out l.out
