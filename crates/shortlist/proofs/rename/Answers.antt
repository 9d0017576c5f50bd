use mathlib.Core.Path.{◌≡◌, sym, ◌∙◌}
use Prim.Native.Nat.{◌≤◌}
use native.Mathlib.Omega.{arith}
use lib.ListN.{length, get_or, length-map, get_or-map}
use Rattle.lists.proofs.Laws.{begun-next}
use Rattle.shortlist.proofs.Places.{begun-here}
use Rattle.shortlist.proofs.rename.Invariants.{renamed}
use Rattle.shortlist.proofs.rename.Goals as goal

pub loop-slot-preserved : goal.loop-slot-preserved
loop-slot-preserved c =
    let at = c.loop-slot in
    let names = c.args.names.now in
    let slots = c.args.slots.now in
    let here : at.slot-index ≤ length (renamed names slots) = rw length-map (omega arith) in
    let first : get_or at.slots at.slot-index 0 ≡ get_or slots at.slot-index 0 = rw at.invariant (begun-here (renamed names slots) slots at.slot-index here) in
    begun-next (renamed names slots) slots at.slots at.slot-index (get_or names 0 0) c.entry.result (omega arith) (rw length-map (omega arith)) at.invariant
    (c.entry.ensures ∙ rw first (sym (get_or-map (λ i. get_or names i 0) slots at.slot-index 0)))
