use Rattle.write.specs.Pieces.{in_order, scale_piece, code_piece, stage_pieces}
use Rattle.write.proofs.Putting.{put-room, put-more, room-first}
use Rattle.marks.specs.Live.{marks_in}
use Rattle.write.proofs.Writer.put_stage.Goals as goal

pub put_scales-requires : goal.put_scales-requires
unfolding stage_pieces
put_scales-requires c =
    let a = c.args in
    room-first (in_order (scale_piece a.scales.now (marks_in a.alive.now)) a.n) (in_order (code_piece a.codes.now (marks_in a.alive.now) a.block) a.n) a.self.now c.requires

pub put_codes-requires : goal.put_codes-requires
unfolding stage_pieces
put_codes-requires c = put-room c.put_scales.ensures _ c.requires

pub returns : goal.returns
unfolding stage_pieces
returns c = put-more c.put_scales.ensures c.put_codes.ensures
