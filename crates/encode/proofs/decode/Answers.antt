use Rattle.encode.proofs.Filling.{decoded-none, decoded-next}
use borrow.Author.Rules.{rules}
use Rattle.encode.proofs.decode.Goals as goal

pub loop-i-init : goal.loop-i-init
loop-i-init c = decoded-none _ _ _ c.requires

pub loop-i-preserved : goal.loop-i-preserved
loop-i-preserved c = decoded-next _ _ _ _ _ c.loop-i.invariant (search rules) _ (rw c.from.ensures at c.dequantize_in.ensures)
