use Rattle.streams.proofs.Pieces.{filled_sent}
use Rattle.streams.proofs.pass_piece.Goals as goal

pub returns-clause-bytes : goal.returns-clause-bytes
returns-clause-bytes g c = filled_sent _ _ _ _ _ _ c.in_ok-came.ensures.bytes c.in_ok-write_all.ensures.bytes
