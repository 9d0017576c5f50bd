use native.Mathlib.Omega.{arith}
use Rattle.scan.proofs.Entries.{none-changed, changed-part}
use Rattle.scan.proofs.Stage.plain_group.Goals as goal

pub returns-then-word-eq0 : goal.returns-then-word-eq0
returns-then-word-eq0 c = none-changed _ _ _ c.args.first c.args.many c.args.word c.args.all.now c.requires.arrays.1 c.requires.lives c.if-word-eq0.true

pub returns : goal.returns
returns c = changed-part _ _ _ _ _ _ _ c.requires.arrays.2 (omega arith) c.loop-k-test.false c.loop-k.invariant
