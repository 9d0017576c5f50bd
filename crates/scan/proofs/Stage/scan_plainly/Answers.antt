use native.Mathlib.Omega.{arith}
use Rattle.scan.proofs.Entries.{changed-group}
use Rattle.scan.proofs.Stage.scan_plainly.Goals as goal

pub loop-group-preserved : goal.loop-group-preserved
loop-group-preserved c =
    changed-group _ _ c.loop-group.group c.min-many.result c.args.all.now _ _ c.loop-group.invariant c.plain_group.ensures (omega arith) (omega arith)
