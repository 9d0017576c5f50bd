use native.Mathlib.Numerals.{add-one}
use Rattle.positions.proofs.Rising.{rises-on}
use Rattle.positions.proofs.HeldKeys.rise.Goals.{then-self-slot, else-self-slot}
use Rattle.positions.proofs.HeldKeys.rise.Goals as goal

pub loop-slot-preserved : goal.loop-slot-preserved
loop-slot-preserved c =
    let on = rises-on _ _ _ c.loop-slot.invariant (c.follows.ensures c.if-not-follows.false) in
    rw (add-one c.loop-slot.slot)
    (elim c.if-self-slot.branch [
      | then-self-slot w ↦ rw w.last-is (rw w.if-self-slot.true at on)
      | else-self-slot w ↦ rw w.last-is (rw w.if-self-slot.false at on)
    ])
