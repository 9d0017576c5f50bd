use native.Mathlib.Omega.{arith}
use Rattle.scan.proofs.Entries.{changed-part}
use Rattle.scan.proofs.Tabled.enter_group.Goals as goal

pub returns : goal.returns
returns c = changed-part _ _ _ _ _ _ _ c.requires.arrays.3 (omega arith) c.loop-k-test.false c.loop-k.invariant
