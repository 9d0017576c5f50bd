use native.Mathlib.Omega.{arith}
use Rattle.held_order.proofs.Writing.{in-part}
use Rattle.held_order.proofs.restore_order.Goals as goal

pub returns-then-n-le1024 : goal.returns-then-n-le1024
returns-then-n-le1024 c =
    in-part c.args.keys.now c.args.keyed.now c.args.n c.args.held.now (omega (arith, c.if-n-le1024.true)) c.if-held-n.false c.restore_in.ensures

pub returns-then-n-le65536 : goal.returns-then-n-le65536
returns-then-n-le65536 c =
    in-part c.args.keys.now c.args.keyed.now c.args.n c.args.held.now c.if-n-le65536.true c.if-held-n.false c.restore_in-then-n-le65536.ensures
