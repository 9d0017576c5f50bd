use mathlib.Core.Path.{refl}
use Prim.Native.Nat.{◌+◌}
use native.Mathlib.Omega.{arith}
use Rattle.removal.specs.Dead.{lent_marks}
use Rattle.removal.proofs.Loops.{Reach, dead-none, dead-lengths, remove-next}
use Rattle.removal.proofs.remove_slots.Goals as goal

pub loop-i-init : goal.loop-i-init
loop-i-init c = (omega arith, record { keyed = refl; held = refl; alive = refl }, dead-none _ _)

pub loop-i-preserved : goal.loop-i-preserved
loop-i-preserved c =
    let a = lent_marks c.args.keyed.now c.args.held.now c.args.alive.now in
    let at = c.loop-i in
    let t = c.loop-i-test.true in
    let p = c.requires in
    let r : Reach (at.i + 1) a = record { keyed = omega (arith, p.0, t); held = omega (arith, p.1, t); alive = omega (arith, p.2, t) } in
    let done = c.remove_slot_of.ensures in
    let more = remove-next c.args.keys.now c.args.key at.i a _ _ r at.invariant.2 done in
    (omega (arith, t), dead-lengths _ a (at.i + 1) _ r more, more)
