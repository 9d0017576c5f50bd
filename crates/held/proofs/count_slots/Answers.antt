use mathlib.Core.Path.{ap, sym, ◌∙◌}
use native.Mathlib.Omega.{arith}
use Rattle.lists.specs.Keep.{bit}
use Rattle.slot_keys.specs.Has.{slot_has}
use Rattle.held.proofs.Scan.{count-more, count-few}
use Rattle.held.proofs.count_slots.Goals.{then-has_key, else-has_key}
use Rattle.held.proofs.count_slots.Goals as goal

pub overflow_add-many : goal.overflow_add-many
overflow_add-many c =
    let few = count-few (slot_has c.args.keys.now c.args.keyed.now c.args.key) c.loop-slot.slot in
    record { fits = omega (arith, c.loop-slot.invariant, few) }

pub loop-slot-preserved : goal.loop-slot-preserved
loop-slot-preserved c =
    let more = count-more (slot_has c.args.keys.now c.args.keyed.now c.args.key) c.loop-slot.slot in
    elim c.if-has_key.branch [
      | then-has_key w ↦ omega (arith, w.many-is, c.loop-slot.invariant, more, ap bit (sym c.has_key.ensures ∙ w.if-has_key.true))
      | else-has_key w ↦ omega (arith, w.many-is, c.loop-slot.invariant, more, ap bit (sym c.has_key.ensures ∙ w.if-has_key.false))
    ]
