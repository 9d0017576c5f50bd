use native.Mathlib.Omega.{arith}
use Rattle.held.proofs.Scan.{slot-within, slot-parts}
use Rattle.held.proofs.held_slot.Goals as goal

pub returns-then-n-held : goal.returns-then-n-held
returns-then-n-held c =
    cc (slot-parts c.args.keys.now c.args.keyed.now c.args.key c.args.n c.args.n (omega (arith, c.if-n-keyed.true)) c.args.held.now c.args.position)

pub returns-else-n-keys : goal.returns-else-n-keys
returns-else-n-keys c = cc (slot-within c.args.keys.now c.args.keyed.now c.args.key c.args.n _ c.min.ensures c.args.held.now c.args.position)
