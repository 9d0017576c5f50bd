use mathlib.Core.Path.{◌≡◌}
use Prim.Native.Nat.{ℕ, suc, ◌-◌, ◌^◌}
use native.Mathlib.Omega.{arith}
use Rattle.choose.proofs.Choice.{ranks}
use Rattle.choose_slots.proofs.Counting.{none_above}
use Rattle.choose_slots.proofs.nth_highest.Goals as goal

pub loop-high-init : goal.loop-high-init
loop-high-init c = omega (arith, none_above (2 ^ 32 - 1) c.args.orders.now (λ i. omega (arith, c.type_inv.orders i)))

pub returns : goal.returns
returns c =
    let here : c.loop-high.high ≡ suc c.loop-high.low = omega arith in
    ranks (λ (o : ℕ). o) c.args.n c.loop-high.high c.args.orders.now c.loop-high.invariant.3 (rw here c.loop-high.invariant.2)
