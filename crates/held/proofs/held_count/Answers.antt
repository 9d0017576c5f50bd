use native.Mathlib.Omega.{arith}
use Rattle.held.proofs.Scan.{count-within, count-parts}
use Rattle.held.proofs.held_count.Goals as goal

pub returns-then-n-keyed : goal.returns-then-n-keyed
returns-then-n-keyed c = cc (count-parts c.args.keys.now c.args.keyed.now c.args.key c.args.n c.args.n (omega (arith, c.if-n-keyed.true)))

pub returns-else-n-keys : goal.returns-else-n-keys
returns-else-n-keys c = cc (count-within c.args.keys.now c.args.keyed.now c.args.key c.args.n _ c.min.ensures)
