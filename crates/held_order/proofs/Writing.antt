-- The positions that restoring held order writes.
use mathlib.Core.Path.{◌≡◌, sym, ◌∙◌}
use mathlib.Core.Bool.{Bool}
use mathlib.Core.List.{List, ◌++◌}
use Prim.Native.Nat.{ℕ, ◌≤◌}
use lib.ListN.{length, take, drop}
use lib.Seq.{length-take-le}
use borrow.Author.Tests.{le-leb}
use Rattle.lists.specs.Lists.{tab, over}
use Rattle.lists.proofs.Laws.{length-tab}
use Rattle.held_order.specs.Restored.{rising_position, restored}

-- where there are places for so many slots
pub in_place : (keys : List ℕ) (keyed : List Bool) (n : ℕ) (held : List ℕ) → n ≤ 65536 → n ≤ length held → restored keys keyed n held ≡ over (tab (rising_position keys keyed) n) held
unfolding restored
in_place keys keyed n held few l = rw (le-leb n 65536 few, le-leb n (length held) l)

-- the positions, put back where they were lent
pub in-part : (keys : List ℕ) (keyed : List Bool) (n : ℕ) (held : List ℕ) → n ≤ 65536 → n ≤ length held → {part : List ℕ} →
    part ≡ tab (rising_position keys keyed) (length (take n held)) → part ++ drop n held ≡ restored keys keyed n held
unfolding over
in-part keys keyed n held few l e = rw (e, length-take-le n held l) (sym (in_place keys keyed n held few l ∙ rw (length-tab (rising_position keys keyed) n)))
