use Rattle.std.proofs.Common.{◌≡◌, get_or, sym, ◌∙◌, rules}
use Rattle.write.specs.Pieces.{year_piece}
use Rattle.write.proofs.Putting.{piece-room, piece-put, piece-none}
use Rattle.write.proofs.Writer.put_year.Goals as goal

pub returns-then-not-is_live : goal.returns-then-not-is_live
unfolding year_piece
returns-then-not-is_live c = piece-none _ _ (sym c.is_live.ensures ∙ c.if-not-is_live.true)

pub put_number-requires-clause-room : goal.put_number-requires-clause-room
unfolding year_piece
put_number-requires-clause-room c = piece-room _ _ c.args.self.now (sym c.is_live.ensures ∙ c.if-not-is_live.false) c.requires

pub returns : goal.returns
unfolding year_piece
returns c =
    let year : c.unwrap_or-year.result ≡ get_or c.args.years.now c.args.slot 0 = search rules in
    piece-put _ _ (sym c.is_live.ensures ∙ c.if-not-is_live.false) (rw year at c.put_number.ensures)
