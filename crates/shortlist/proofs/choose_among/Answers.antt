use mathlib.Core.Path.{◌≡◌}
use mathlib.Core.List.{List}
use Prim.Native.Nat.{ℕ, ◌≤◌}
use native.Mathlib.Omega.{arith}
use lib.ListN.{length, get_or, length-take}
use Rattle.lists.specs.Lists.{over}
use Rattle.choose_slots.specs.Slots.{listed_within}
use Rattle.choose_slots.proofs.Listed.{answered-few}
use Rattle.shortlist.proofs.Places.{over-reach, over-part}
use Rattle.shortlist.proofs.choose_among.Goals as goal

within : (numbers : List ℕ) (k : ℕ) (places : List ℕ) {n : ℕ} {now : List ℕ} → n ≡ length (listed_within numbers k places) → now ≡ over (listed_within numbers k places) places → n ≤ length now
within numbers k places e w = over-reach (listed_within numbers k places) places e w (answered-few numbers k places)

pub slice_bounds-rename-end : goal.slice_bounds-rename-end
slice_bounds-rename-end c = within c.args.numbers.now c.args.k _ c.choose-n.ensures.value c.choose-n.ensures.slots_after

pub slice_bounds-rename-end-2 : goal.slice_bounds-rename-end-2
slice_bounds-rename-end-2 c =
    omega (arith, length-take c.choose-n.result c.choose-n.new.slots, within c.args.numbers.now c.args.k _ c.choose-n.ensures.value c.choose-n.ensures.slots_after)

pub returns-clause-slots_after : goal.returns-clause-slots_after
returns-clause-slots_after c =
    let a = c.args in
    let e = c.choose-n.ensures in
    over-part (λ (i : ℕ). get_or a.names.now i 0) (listed_within a.numbers.now a.k a.slots.now) a.slots.now e.value e.slots_after c.rename.ensures
