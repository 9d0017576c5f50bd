use mathlib.Core.Path.{◌∙◌}
use native.Mathlib.Omega.{arith}
use lib.Dec.{ltb}
use Rattle.lists.proofs.Keep.{count-length}
use Rattle.sort_slots.proofs.Sorted.{sorted-falling}
use Rattle.choose_slots.proofs.list.Goals as goal

pub returns : goal.returns
returns c =
    c.sort_falling.ensures ∙
    sorted-falling c.args.orders.now c.gather_chosen.new.slots (omega (arith, c.requires, c.gather_chosen.auto.slots, count-length (ltb 0) c.args.orders.now)) ∙
    c.gather_chosen.ensures
