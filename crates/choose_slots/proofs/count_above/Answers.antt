use native.Mathlib.Omega.{arith}
use Rattle.choose_slots.proofs.Counting.{counted-more, counted-within}
use Rattle.choose_slots.proofs.count_above.Goals as goal

pub overflow_add-n : goal.overflow_add-n
overflow_add-n c = omega (arith, counted-within (counted-more c.loop-order.invariant c.loop-order-test.true))

pub loop-order-preserved : goal.loop-order-preserved
loop-order-preserved c = counted-more c.loop-order.invariant c.loop-order-test.true
