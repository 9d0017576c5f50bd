use Rattle.lloyd.specs.Quantizer.{decoded}
use Rattle.vectors.proofs.Filling.{Filled}
use Rattle.encode.proofs.decode.Given as goal

abbrev pub invariant-loop-i : goal.invariant-loop-i
invariant-loop-i l = Filled (decoded l.centroids l.codes) l.initial.out l.out l.i
