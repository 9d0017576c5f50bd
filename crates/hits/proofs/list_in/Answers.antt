use Rattle.std.proofs.lemmas.List.{length-replicate}
use Rattle.std.proofs.Common.{sym}
use mathlib.Core.Path.{ap, ◌∙◌}
use Prim.Native.Nat.{◌-◌}
use Rattle.index.specs.State.{header_of}
use Rattle.marks.specs.Live.{marks_in}
use Rattle.hits.specs.Hits.{score_at}
use lib.ListN.{take}
use borrow.Author.Tests.{not-true, not-false}
use Rattle.unit.specs.Brought.{query_of}
use Rattle.hits.proofs.Query.{scores-fit}
use Rattle.lists.proofs.Front.{part-tab}
use Rattle.lists.proofs.Ranges.{sets_front}
use Rattle.hits.proofs.Answer.{ready-few, ready-width, ready-rotatable, some_nan, all_sound}
use Rattle.hits.proofs.list_in.Goals as goal

pub enter_all-requires-clause-sizes : goal.enter_all-requires-clause-sizes
enter_all-requires-clause-sizes g c =
    let w = ready-width _ _ _ _ c.requires.is_ready in
    (w.0, w.1, rw length-replicate c.requires.room.0, rw length-replicate c.requires.room.0)

pub enter_all-requires-clause-can_rotate : goal.enter_all-requires-clause-can_rotate
enter_all-requires-clause-can_rotate g c =
    let w = ready-width _ _ _ _ c.requires.is_ready in
    ready-rotatable _ _ _ _ c.requires.is_ready

pub returns-then-not-enter_all : goal.returns-then-not-enter_all
returns-then-not-enter_all g c =
    some_nan (score_at (header_of c.args.index) c.args.arrays.now.codes.now c.args.arrays.now.scales.now c.args.arrays.now.codes2.now c.args.arrays.now.scales2.now (query_of c.args.query.now)) (marks_in c.args.marks.now) c.args.index.n c.args.k c.args.slots.now c.args.scores.now (not-false _ (sym c.enter_all.ensures.sound ∙ c.if-not-enter_all.true))

pub returns : goal.returns
returns g c =
    let n = c.args.index.n in
    let marks = (marks_in c.args.marks.now) in
    let entered = c.enter_all in
    let sound = c.if-not-enter_all.false in
    all_sound (score_at (header_of c.args.index) c.args.arrays.now.codes.now c.args.arrays.now.scales.now c.args.arrays.now.codes2.now c.args.arrays.now.scales2.now (query_of c.args.query.now)) marks n c.args.k c.args.slots.now c.args.scores.now
    (scores-fit (header_of c.args.index) c.args.arrays.now.codes.now c.args.arrays.now.scales.now c.args.arrays.now.codes2.now c.args.arrays.now.scales2.now (query_of c.args.query.now))
    (ready-few _ _ _ _ c.requires.is_ready) (not-true _ (sym entered.ensures.sound ∙ sound)) _ _
    (ap (take (n - 0)) (entered.ensures.scores-in sound ∙ sets_front _ n _ (rw length-replicate c.requires.room.0)) ∙ part-tab _ n _)
    (ap (take (n - 0)) (entered.ensures.orders-in sound ∙ sets_front _ n _ (rw length-replicate c.requires.room.0)) ∙ part-tab _ n _)
    _ _ _ c.write_hits-hits.ensures _ c.count_answer.ensures
