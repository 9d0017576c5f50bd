use Rattle.std.proofs.Common.{arith}
use Rattle.write.specs.Pieces.{file_pieces}
use Rattle.write.proofs.Putting.{put-more}
use Rattle.write.proofs.Pieces.{pieces-length}
use Rattle.write.proofs.Writer.put_file.Goals as goal

pub put_head-requires : goal.put_head-requires
put_head-requires c = omega (arith, pieces-length)

pub put_width-requires : goal.put_width-requires
put_width-requires c = omega (arith, pieces-length)

pub put_stage-requires : goal.put_stage-requires
put_stage-requires c = rw c.requires.block_is_size (omega (arith, pieces-length))

pub put_second-requires : goal.put_second-requires
put_second-requires c = rw c.requires.block_is_size (omega (arith, pieces-length, rw c.requires.block_is_size at c.put_stage.ensures.after))

pub put_number-requires-clause-room : goal.put_number-requires-clause-room
put_number-requires-clause-room c = omega (arith, pieces-length, rw c.requires.block_is_size at c.put_stage.ensures.after, rw c.requires.block_is_size at c.put_second.ensures.after)

pub put_entries-requires : goal.put_entries-requires
put_entries-requires c = omega (arith, pieces-length, rw c.requires.block_is_size at c.put_stage.ensures.after, rw c.requires.block_is_size at c.put_second.ensures.after)

pub put_years-requires : goal.put_years-requires
put_years-requires c = omega (arith, pieces-length, rw c.requires.block_is_size at c.put_stage.ensures.after, rw c.requires.block_is_size at c.put_second.ensures.after)

pub returns : goal.returns
unfolding file_pieces
returns c =
    let n = c.requires.counted in
    let head = rw n at c.put_head.ensures in
    let stage = put-more (put-more head c.put_width.ensures) (rw c.requires.block_is_size at c.put_stage.ensures) in
    let second = put-more stage (rw c.requires.block_is_size at c.put_second.ensures) in
    put-more (put-more (put-more second (rw n at c.put_number.ensures)) c.put_entries.ensures) c.put_years.ensures
