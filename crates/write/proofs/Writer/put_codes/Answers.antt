use Rattle.write.specs.Pieces.{code_piece}
use Rattle.write.proofs.Putting.{order-none, order-room, order-put}
use Rattle.marks.specs.Live.{marks_in}
use Rattle.write.proofs.Writer.put_codes.Goals as goal

pub loop-i-init : goal.loop-i-init
loop-i-init c = let a = c.args in order-none (code_piece a.codes.now (marks_in a.alive.now) a.block) a.self.now

pub put_block-requires : goal.put_block-requires
put_block-requires c = let a = c.args in order-room (code_piece a.codes.now (marks_in a.alive.now) a.block) _ c.loop-i.invariant _ c.requires c.loop-i-test.true

pub loop-i-preserved : goal.loop-i-preserved
loop-i-preserved c = let a = c.args in order-put (code_piece a.codes.now (marks_in a.alive.now) a.block) _ c.loop-i.invariant c.put_block.ensures
