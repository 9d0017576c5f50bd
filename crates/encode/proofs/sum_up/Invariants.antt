use lib.ListN.{length}
use Rattle.vectors.proofs.Sums.{Squares}
use Rattle.encode.proofs.Sums.{Products}
use Rattle.encode.proofs.sum_up.Given as goal

abbrev pub invariant-loop-x : goal.invariant-loop-x
invariant-loop-x l =
    let n = length l.yielded in
    Squares l.d l.first n × Products l.d l.e l.cross n × Squares l.e l.second n
