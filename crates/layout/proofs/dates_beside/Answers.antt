use Rattle.std.proofs.Common.{ap, ◌&&◌, ltb, get_or, arith}
use Rattle.lists.specs.Keep.{bit}
use Rattle.lists.proofs.Bits.{as-bit, one_at_most}
use Rattle.lists.proofs.Laws.{get_d_default}
use Rattle.layout.specs.Counts.{is_dated, dated_beside}
use Rattle.layout.proofs.Counting.{count-one, count-few}
use Rattle.layout.proofs.dates_beside.Goals as goal

pub overflow_add-many : goal.overflow_add-many
overflow_add-many c =
    let test = dated_beside c.args.years.now c.args.bits.now in
    let here = ltb 0 (get_or c.args.bits.now c.loop-j.j 0) && is_dated (get_or c.args.years.now c.loop-j.j 0) in
    omega (arith, c.requires.0, c.loop-j-test.true, c.loop-j.invariant, count-few test c.loop-j.j, one_at_most here)

pub loop-j-preserved : goal.loop-j-preserved
loop-j-preserved c =
    let j = c.loop-j.j in
    let on = ltb 0 (get_or c.args.bits.now j 0) in
    let test = dated_beside c.args.years.now c.args.bits.now in
    omega (
      arith,
      c.loop-j.invariant,
      as-bit (on && is_dated (get_or c.args.years.now j 0)),
      ap (λ y. bit (on && is_dated y)) (get_d_default c.args.years.now j 0 1 c.loop-j-test.true),
      count-one test j,
    )
