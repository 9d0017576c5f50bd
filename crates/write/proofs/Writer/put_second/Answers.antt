use Rattle.write.specs.Pieces.{second_pieces}
use Rattle.write.proofs.Putting.{piece-room, piece-put, piece-none}
use Rattle.write.proofs.Writer.put_second.Goals as goal

pub returns-then-not-residual : goal.returns-then-not-residual
unfolding second_pieces
returns-then-not-residual c = piece-none _ _ c.if-not-residual.true

pub put_stage-requires : goal.put_stage-requires
unfolding second_pieces
put_stage-requires c = piece-room _ _ c.args.self.now c.if-not-residual.false c.requires

pub returns : goal.returns
unfolding second_pieces
returns c = piece-put _ _ c.if-not-residual.false c.put_stage.ensures
