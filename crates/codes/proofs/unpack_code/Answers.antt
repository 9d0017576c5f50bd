use native.Mathlib.Omega.{arith}
use lib.Pow.{pow_pos}
use Rattle.codes.specs.Writing.{at_width}
use Rattle.codes.proofs.Index.{cut-lt, shifted}
use Rattle.codes.proofs.Tests.{is-width, no-width, a-width}
use Rattle.codes.proofs.TwoBytes.{window-code}
use Rattle.codes.proofs.unpack_code.Goals as goal

pub returns-then-not-is_width : goal.returns-then-not-is_width
unfolding at_width
returns-then-not-is_width c = rw (no-width c.args.bits c.is_width.ensures c.if-not-is_width.true)

pub first_byte-requires : goal.first_byte-requires
first_byte-requires c = (a-width _ c.is_width.ensures c.if-not-is_width.false).most

pub first_bit-requires : goal.first_bit-requires
first_bit-requires c = (a-width _ c.is_width.ensures c.if-not-is_width.false).most

pub overflow_shl-result : goal.overflow_shl-result
overflow_shl-result c = omega (arith, (a-width _ c.is_width.ensures c.if-not-is_width.false).most)

pub nonzero_rem-result : goal.nonzero_rem-result
nonzero_rem-result c = rw (shifted c.args.bits (a-width _ c.is_width.ensures c.if-not-is_width.false).most) (pow_pos c.args.bits)

pub overflow_cast-result-2 : goal.overflow_cast-result-2
overflow_cast-result-2 c =
    let most = (a-width _ c.is_width.ensures c.if-not-is_width.false).most in
    rw (shifted c.args.bits most) (record { fits = cut-lt _ _ most })

pub returns : goal.returns
unfolding at_width
returns c =
    let width = a-width _ c.is_width.ensures c.if-not-is_width.false in
    rw (is-width width, shifted c.args.bits width.most, c.first_bit.ensures, c.window.ensures, c.first_byte.ensures)
    (window-code _ _ _ width.most (λ k. (c.type_inv.block k).fits))
