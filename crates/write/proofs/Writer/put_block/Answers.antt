use Rattle.std.proofs.Common.{sym, ◌∙◌}
use Rattle.write.specs.Pieces.{code_piece}
use Rattle.write.proofs.Putting.{piece-room, piece-put, piece-none}
use Rattle.write.proofs.Writer.put_block.Goals as goal

pub returns-then-not-is_live : goal.returns-then-not-is_live
unfolding code_piece
returns-then-not-is_live c = piece-none _ _ (sym c.is_live.ensures ∙ c.if-not-is_live.true)

pub put_bytes-requires : goal.put_bytes-requires
unfolding code_piece
put_bytes-requires c = rw c.slot_codes.ensures (piece-room _ _ c.args.self.now (sym c.is_live.ensures ∙ c.if-not-is_live.false) c.requires)

pub returns : goal.returns
unfolding code_piece
returns c = piece-put _ _ (sym c.is_live.ensures ∙ c.if-not-is_live.false) (rw c.slot_codes.ensures at c.put_bytes.ensures)
