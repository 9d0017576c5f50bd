use Rattle.scan.specs.Pairs.{Paired}
use Rattle.scan.proofs.fill_pairs.Given as goal

abbrev pub invariant-loop-x : goal.invariant-loop-x
invariant-loop-x l = Paired l.bits l.centroids l.pairs l.x
