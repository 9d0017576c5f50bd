use Rattle.std.proofs.Common.{◌+◌, length, refl, arith, length-take, length-append, length-drop}
use Rattle.streams.proofs.Pieces.{pass_then, pass_ended}
use Rattle.streams.proofs.pass.Goals as goal

pub loop-came-preserved : goal.loop-came-preserved
loop-came-preserved g c =
    let room = length-take c.min-most.result c.loop-came.buf in
    let more = c.in_ok-more.ensures in
    record {
      size = simp (length-append, length-drop) (omega arith);
      within = omega (arith, more.within);
      bytes = pass_then _ _ _ _ _ _ _ _ _ _ _ (omega (arith, more.within)) c.loop-came.invariant.bytes more.bytes;
    }

pub returns-then-more-most : goal.returns-then-more-most
returns-then-more-most g c =
    let room = length-take c.min-most.result c.loop-came.buf in
    let more = c.in_ok-more.ensures in
    record {
      within = omega (arith, more.within);
      bytes = pass_ended _ _ _ _ (c.loop-came.came + length c.pass_piece.new.buf) _ _ (omega arith) (omega (arith, more.within)) (pass_then _ _ _ _ _ _ _ _ _ _ _ refl c.loop-came.invariant.bytes more.bytes);
    }
