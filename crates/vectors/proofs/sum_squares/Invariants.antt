use Rattle.vectors.proofs.Sums.{Squares}
use Rattle.vectors.proofs.sum_squares.Given as goal

abbrev pub invariant-loop-x : goal.invariant-loop-x
invariant-loop-x l = Squares l.xs l.sum l.x-index
