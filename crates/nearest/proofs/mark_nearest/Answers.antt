use mathlib.Core.Path.{sym, ap, ◌∙◌}
use mathlib.Core.List.{List}
use Prim.Native.Nat.{ℕ}
use Rattle.lists.specs.Lists.{over}
use Rattle.marks.specs.Live.{marks_in}
use Rattle.index.specs.Step.{query_of}
use Rattle.marks.proofs.Words.{zero-filled}
use Rattle.nearest.proofs.Lent.{ready, tested, lent-by}
use Rattle.nearest.proofs.mark_nearest.Goals as goal

pub live_distances-requires : goal.live_distances-requires
live_distances-requires c = let m = ready _ _ _ _ _ (sym (tested _ _ _ _ _ c.is_ready.ensures c.places.ensures) ∙ c.if-is_ready.true) in (m.few, m.four, m.query)

pub slice_bounds-places-end : goal.slice_bounds-places-end
slice_bounds-places-end c =
    (lent-by c.args.index c.args.codes.now (marks_in c.args.alive.now) (query_of c.args.query.now) (tested _ _ _ _ _ c.is_ready.ensures c.places.ensures) c.if-is_ready.true c.live_distances.ensures).fits

pub slice_bounds-distances-end : goal.slice_bounds-distances-end
slice_bounds-distances-end c =
    sym (lent-by c.args.index c.args.codes.now (marks_in c.args.alive.now) (query_of c.args.query.now) (tested _ _ _ _ _ c.is_ready.ensures c.places.ensures) c.if-is_ready.true c.live_distances.ensures).long

pub find_limit-requires : goal.find_limit-requires
find_limit-requires c =
    let m = lent-by c.args.index c.args.codes.now (marks_in c.args.alive.now) (query_of c.args.query.now) (tested _ _ _ _ _ c.is_ready.ensures c.places.ensures) c.if-is_ready.true c.live_distances.ensures in
    record { few = m.few; low = m.low }

pub mark-requires-clause-room : goal.mark-requires-clause-room
mark-requires-clause-room c =
    (lent-by c.args.index c.args.codes.now (marks_in c.args.alive.now) (query_of c.args.query.now) (tested _ _ _ _ _ c.is_ready.ensures c.places.ensures) c.if-is_ready.true c.live_distances.ensures).room

pub returns-then-is_ready : goal.returns-then-is_ready
returns-then-is_ready c =
    let e = zero-filled _ _ (c.fill.ensures.after (λ y w. w)) in
    let t = tested _ _ _ _ _ c.is_ready.ensures c.places.ensures in
    let m = lent-by c.args.index c.args.codes.now (marks_in c.args.alive.now) (query_of c.args.query.now) t c.if-is_ready.true c.live_distances.ensures in
    rw (sym (rw e at t) ∙ c.if-is_ready.true)
    (c.mark.ensures ∙ ap (λ (ms : List ℕ). over ms (marks_in c.fill.new.self)) (m.marks c.args.r c.find_limit.result c.find_limit.ensures) ∙ ap (over _) e)

pub returns-else-is_ready : goal.returns-else-is_ready
returns-else-is_ready c =
    let e = zero-filled _ _ (c.fill.ensures.after (λ y w. w)) in
    rw (sym (rw e at (tested _ _ _ _ _ c.is_ready.ensures c.places.ensures)) ∙ c.if-is_ready.false) e
