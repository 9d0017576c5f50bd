use Rattle.std.proofs.Common.{◌≡◌, get_or, sym, ap, ◌∙◌, rules}
use Rattle.half.specs.Half.{narrowed}
use Rattle.write.specs.Pieces.{scale_piece}
use Rattle.write.proofs.Putting.{piece-room, piece-put, piece-none}
use Rattle.write.proofs.Writer.put_scale.Goals as goal

pub returns-then-not-is_live : goal.returns-then-not-is_live
unfolding scale_piece
returns-then-not-is_live c = piece-none _ _ (sym c.is_live.ensures ∙ c.if-not-is_live.true)

pub put_number-requires-clause-room : goal.put_number-requires-clause-room
unfolding scale_piece
put_number-requires-clause-room c = piece-room _ _ c.args.self.now (sym c.is_live.ensures ∙ c.if-not-is_live.false) c.requires

pub returns : goal.returns
unfolding scale_piece
returns c =
    let scale : c.unwrap_or-pattern.result ≡ get_or c.args.scales.now c.args.slot 0 = search rules in
    let e = c.f32_to_f16_bits-scale.ensures.equals ∙ ap narrowed scale in
    piece-put _ _ (sym c.is_live.ensures ∙ c.if-not-is_live.false) (rw e at c.put_number.ensures)
