use Rattle.vectors.specs.Vectors.{divided}
use Rattle.vectors.proofs.Filling.{Filled}
use Rattle.vectors.proofs.divide.Given as goal

abbrev pub invariant-loop-x : goal.invariant-loop-x
invariant-loop-x l = Filled (divided l.by l.initial.xs) l.initial.xs l.xs l.x-index
