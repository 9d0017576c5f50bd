use Rattle.std.proofs.Common.{sym, ◌∙◌, arith}
use Rattle.compact.proofs.Gathering.{listed-none, listed-few, listed_same, listed_more}
use Rattle.compact.proofs.live_slots.Goals.{then-is_live, else-is_live}
use Rattle.compact.proofs.live_slots.Goals as goal

pub loop-i-init : goal.loop-i-init
loop-i-init c = listed-none _ _

pub offset_bounds-slots-many : goal.offset_bounds-slots-many
offset_bounds-slots-many c = omega (arith, listed-few _ _ c.loop-i.invariant)

pub bounds-slots-many : goal.bounds-slots-many
bounds-slots-many c = omega (arith, listed-few _ _ c.loop-i.invariant)

pub overflow_add-many : goal.overflow_add-many
overflow_add-many c = omega (arith, listed-few _ _ c.loop-i.invariant)

pub loop-i-preserved : goal.loop-i-preserved
loop-i-preserved c =
    let m = c.loop-i.invariant in
    let e = c.is_live.ensures in
    elim c.if-is_live.branch [
      | then-is_live w ↦ rw (w.slots-is, w.many-is) (listed_more _ _ m (omega arith) (sym e ∙ w.if-is_live.true))
      | else-is_live w ↦ rw (w.slots-is, w.many-is) (listed_same _ _ m (sym e ∙ w.if-is_live.false))
    ]
