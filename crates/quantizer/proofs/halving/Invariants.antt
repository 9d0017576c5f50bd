use Rattle.lloyd.proofs.Quantized.{Between}
use Rattle.quantizer.proofs.halving.Given as goal

-- `quantizer::halving` meets its contract: x's code lies between `code` and `code + left`, and each comparison halves that.
abbrev pub invariant-loop-left : goal.invariant-loop-left
invariant-loop-left l = Between l.boundaries l.x l.code l.left

abbrev pub decreases-loop-left : goal.decreases-loop-left
decreases-loop-left l = l.left
