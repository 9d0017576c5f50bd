use Rattle.std.proofs.Common.{◌≡◌, sym, ap, ◌∙◌, arith}
use borrow.Author.Tests.{not-true, not-false}
use Rattle.index.specs.declared.Form.{Form}
use Rattle.write.specs.Pieces.{year_piece, year_pieces}
use Rattle.write.proofs.Putting.{order-none, order-room, order-put, piece-room, piece-put, piece-none}
use Rattle.marks.specs.Live.{marks_in}
use Rattle.write.proofs.Writer.put_years.Goals as goal

pub returns-then-not-form_of : goal.returns-then-not-form_of
unfolding year_pieces
returns-then-not-form_of c = piece-none _ _ (sym (ap (λ (f : Form). f.years) c.form_of.ensures) ∙ not-true _ c.if-not-form_of.true)

pub loop-i-init : goal.loop-i-init
loop-i-init c = let a = c.args in order-none (year_piece a.years.now (marks_in a.alive.now)) a.self.now

pub put_year-requires : goal.put_year-requires
unfolding year_pieces
put_year-requires c =
    let a = c.args in
    let room = piece-room _ _ a.self.now (sym (ap (λ (f : Form). f.years) c.form_of.ensures) ∙ not-false _ c.if-not-form_of.false) c.requires in
    order-room (year_piece a.years.now (marks_in a.alive.now)) _ c.loop-i.invariant _ room c.loop-i-test.true

pub loop-i-preserved : goal.loop-i-preserved
loop-i-preserved c = let a = c.args in order-put (year_piece a.years.now (marks_in a.alive.now)) _ c.loop-i.invariant c.put_year.ensures

pub returns : goal.returns
unfolding year_pieces
returns c =
    let e : c.loop-i.i ≡ c.args.n = omega (arith, c.loop-i.auto.i-end, c.loop-i-test.false) in
    piece-put _ _ (sym (ap (λ (f : Form). f.years) c.form_of.ensures) ∙ not-false _ c.if-not-form_of.false) (rw e at c.loop-i.invariant)
