use Rattle.write.specs.Pieces.{scale_piece}
use Rattle.write.proofs.Putting.{order-none, order-room, order-put}
use Rattle.marks.specs.Live.{marks_in}
use Rattle.write.proofs.Writer.put_scales.Goals as goal

pub loop-i-init : goal.loop-i-init
loop-i-init c = let a = c.args in order-none (scale_piece a.scales.now (marks_in a.alive.now)) a.self.now

pub put_scale-requires : goal.put_scale-requires
put_scale-requires c = let a = c.args in order-room (scale_piece a.scales.now (marks_in a.alive.now)) _ c.loop-i.invariant _ c.requires c.loop-i-test.true

pub loop-i-preserved : goal.loop-i-preserved
loop-i-preserved c = let a = c.args in order-put (scale_piece a.scales.now (marks_in a.alive.now)) _ c.loop-i.invariant c.put_scale.ensures
