use Rattle.std.proofs.Common.{◌≡◌, ◌<◌, lit<, arith, rules}
use mathlib.Core.Path.{◌∙◌}
use lib.ListN.{get_or}
use Rattle.values.specs.Reading.{digit_of}
use Rattle.values.proofs.Digits.{digit_at, value-step, one_more, below_64}
use Rattle.values.proofs.value_of.Goals as goal

pub overflow_mul-v : goal.overflow_mul-v
overflow_mul-v c = omega (arith, below_64 c.loop-b.b-index c.loop-b.v 0 (omega arith) c.loop-b.invariant.0 (lit< tt))

pub overflow_add-v : goal.overflow_add-v
overflow_add-v c =
    let low : digit_of (get_or c.args.digits.now c.loop-b.b-index 0) < 16 = digit_at c.args.digits.now c.loop-b.b-index c.requires.0 c.loop-b-test.true in
    omega (arith, c.digit.ensures, below_64 c.loop-b.b-index c.loop-b.v _ (omega arith) c.loop-b.invariant.0 low)

pub loop-b-preserved : goal.loop-b-preserved
loop-b-preserved c =
    let loop = c.loop-b in
    let digits = c.args.digits.now in
    let low : digit_of (get_or digits loop.b-index 0) < 16 = digit_at digits loop.b-index c.requires.0 c.loop-b-test.true in
    (rw (c.from.ensures, c.digit.ensures) (one_more loop.b-index loop.v _ loop.invariant.0 low), rw (c.from.ensures, c.digit.ensures) (value-step digits loop.b-index c.loop-b-test.true loop.v ∙ loop.invariant.1))
