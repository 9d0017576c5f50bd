use native.Mathlib.Omega.{arith}
use Rattle.lists.proofs.Bits.{as-bit, one_at_most}
use Rattle.layout.specs.Counts.{entry_beside}
use Rattle.layout.proofs.Counting.{count-one, count-few}
use Rattle.layout.proofs.entries_beside.Goals as goal

pub overflow_add-many : goal.overflow_add-many
overflow_add-many c =
    let test = entry_beside c.args.keyed.now c.args.bits.now in
    omega (arith, c.requires.0, c.loop-j-test.true, c.loop-j.invariant, count-few test c.loop-j.j, one_at_most (test c.loop-j.j))

pub loop-j-preserved : goal.loop-j-preserved
loop-j-preserved c =
    let test = entry_beside c.args.keyed.now c.args.bits.now in
    omega (arith, c.loop-j.invariant, as-bit (test c.loop-j.j), count-one test c.loop-j.j)
