use Rattle.kernels.proofs.Bytes.{InTail}
use Rattle.kernels.proofs.Block.byte_tail.Given as goal

abbrev pub invariant-loop-i : goal.invariant-loop-i
invariant-loop-i l = InTail l.self.codes.now l.self.query.now l.self.centroids.now l.tail l.i
