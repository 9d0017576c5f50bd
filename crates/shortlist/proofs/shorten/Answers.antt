use mathlib.Core.Path.{sym, ◌∙◌}
use native.Mathlib.Omega.{arith}
use Rattle.shortlist.proofs.Shortening.{shortening-none, shortening-few, shortening-all, shortening-kept, shortening-other}
use Rattle.shortlist.proofs.shorten.Goals as goal
use Rattle.shortlist.proofs.shorten.Goals.{then-is_kept, else-is_kept}

pub loop-slot-init : goal.loop-slot-init
loop-slot-init c = shortening-none _ _ _ _ _

pub overflow_add-m : goal.overflow_add-m
overflow_add-m c = omega (arith, shortening-few c.loop-slot.invariant)

pub loop-slot-preserved : goal.loop-slot-preserved
loop-slot-preserved c =
    elim c.if-is_kept.branch [
      | then-is_kept w ↦ rw (w.names-is, w.put.ensures, w.numbers-is, w.put-then-is_kept.ensures, w.m-is) (shortening-kept c.loop-slot.invariant c.loop-slot-test.true (sym c.is_kept.ensures ∙ w.if-is_kept.true))
      | else-is_kept w ↦ rw (w.names-is, w.numbers-is, w.m-is) (shortening-other c.loop-slot.invariant c.loop-slot-test.true (sym c.is_kept.ensures ∙ w.if-is_kept.false))
    ]

pub returns : goal.returns
returns c = shortening-all c.loop-slot.invariant c.loop-slot-test.false
