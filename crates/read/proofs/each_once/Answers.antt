use mathlib.Core.Path.{sym}
use mathlib.Core.List.{List}
use Prim.Native.Nat.{ℕ}
use native.Mathlib.Omega.{arith}
use Rattle.index.specs.Read.{entry_from}
use Rattle.read.specs.Table.{slots_from}
use Rattle.read.proofs.Once.{marked-none, past-count, seen_twice, marked_more, marked_all}
use Rattle.read.proofs.each_once.Goals as goal

abbrev slot_of : List ℕ → ℕ → ℕ
slot_of table j = (entry_from table j).slot

pub loop-i-init : goal.loop-i-init
loop-i-init c = marked-none (slot_of c.args.table.now) _ _ 65536 c.requires

pub returns-then-n-slot : goal.returns-then-n-slot
unfolding slots_from
returns-then-n-slot c =
    sym (past-count (slot_of c.args.table.now) _ _ c.loop-i.i c.loop-i-test.true (omega (arith, c.if-n-slot.true, c.entry_slot-slot.ensures)))

pub returns-then-seen-slot : goal.returns-then-seen-slot
unfolding slots_from
returns-then-seen-slot c =
    sym (seen_twice (slot_of c.args.table.now) _ _ c.loop-i.invariant c.loop-i-test.true (rw c.entry_slot-slot.ensures at c.if-seen-slot.true))

pub loop-i-preserved : goal.loop-i-preserved
loop-i-preserved c =
    let e = c.entry_slot-slot.ensures in
    rw e (marked_more (slot_of c.args.table.now) _ _ c.loop-i.invariant c.loop-i-test.true (omega (arith, c.if-n-slot.false, e)) (rw e at c.if-seen-slot.false))

pub returns : goal.returns
unfolding slots_from
returns c = sym (marked_all (slot_of c.args.table.now) _ _ c.loop-i.invariant (omega arith))
