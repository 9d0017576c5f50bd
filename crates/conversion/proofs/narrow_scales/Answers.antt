use Rattle.std.proofs.Common.{refl, ap, ◌∙◌, arith}
use Rattle.lists.specs.Keep.{bit}
use Rattle.lists.proofs.Bits.{as-bit, one_at_most}
use Rattle.half.specs.Half.{narrowed}
use Rattle.index.specs.File.{le_bytes}
use Rattle.index.specs.Read.{little_endian}
use Rattle.conversion.specs.Scales.{changes}
use Rattle.conversion.proofs.Narrowing.{done-none, done-more}
use Rattle.conversion.proofs.narrow_scales.Goals as goal

pub loop-i-init : goal.loop-i-init
loop-i-init c = done-none _ _

pub overflow_add-changed : goal.overflow_add-changed
overflow_add-changed c = omega (arith, c.loop-i.invariant.few, one_at_most c.is_changed.result, c.loop-i-test.true)

pub loop-i-preserved : goal.loop-i-preserved
loop-i-preserved c =
    let scale = c.rd_u32-scale.ensures ∙ ap (little_endian 4) c.after.ensures in
    let half = c.f32_to_f16_bits-half.ensures.equals ∙ ap narrowed scale in
    done-more _ _ (omega (arith, c.loop-i-test.true, c.min-n.ensures)) _ c.loop-i.invariant _ (c.copy_from_slice.ensures.after ∙ c.to_le_bytes.ensures ∙ ap (le_bytes 2) half)
    _ (as-bit c.is_changed.result ∙ ap bit (c.is_changed.ensures ∙ ap changes scale)) _ (omega arith) _ refl
