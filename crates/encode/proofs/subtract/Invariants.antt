use Rattle.encode.specs.Encode.{differences}
use Rattle.vectors.proofs.Filling.{Filled}
use Rattle.encode.proofs.subtract.Given as goal

abbrev pub invariant-loop-i : goal.invariant-loop-i
invariant-loop-i l = Filled (differences l.xs l.ys) l.initial.out l.out l.i
