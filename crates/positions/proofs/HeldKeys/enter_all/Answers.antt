use mathlib.Core.Path.{◌∙◌}
use native.Mathlib.Numerals.{add-one}
use borrow.Author.Count.{below_more}
use Rattle.positions.proofs.HeldKeys.enter_all.Goals as goal

pub loop-slot-preserved : goal.loop-slot-preserved
loop-slot-preserved c =
    let so_far = c.loop-slot.invariant in
    let one = c.enter.ensures.yes c.if-not-enter.false in
    record {
      size = c.enter.auto.tree ∙ so_far.size;
      grown = rw (add-one c.loop-slot.slot) one.0;
      new = below_more _ _ so_far.new one.1;
    }
