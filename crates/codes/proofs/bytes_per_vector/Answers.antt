use native.Mathlib.Omega.{arith}
use Rattle.codes.specs.Packing.{bytes_per_vector}
use Rattle.codes.specs.Writing.{at_width}
use Rattle.codes.proofs.Index.{eights}
use Rattle.codes.proofs.Tests.{is-width, no-width, a-width}
use Rattle.codes.proofs.bytes_per_vector.Goals as goal

pub returns-then-not-is_width : goal.returns-then-not-is_width
unfolding at_width
returns-then-not-is_width c = rw (no-width c.args.bits c.is_width.ensures c.if-not-is_width.true)

pub overflow_mul-result : goal.overflow_mul-result
overflow_mul-result c = omega (arith, eights _ c.args.padded (a-width _ c.is_width.ensures c.if-not-is_width.false).most)

pub overflow_add-result : goal.overflow_add-result
overflow_add-result c = omega (arith, eights _ c.args.padded (a-width _ c.is_width.ensures c.if-not-is_width.false).most)

pub returns : goal.returns
unfolding at_width bytes_per_vector
returns c =
    let width = a-width _ c.is_width.ensures c.if-not-is_width.false in
    rw (is-width width) (omega (arith, eights _ c.args.padded width.most))
