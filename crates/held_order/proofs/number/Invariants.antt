use Prim.Native.Nat.{ℕ}
use lib.ListN.{length}
use Rattle.lists.proofs.Writing.{Written}
use Rattle.held_order.proofs.number.Given as goal

abbrev pub invariant-loop-i : goal.invariant-loop-i
invariant-loop-i l = Written (λ (j : ℕ). j) (length l.initial.held) l.i l.initial.held l.held
