use Rattle.std.proofs.Common.{ap, sym, ◌∙◌}
use mathlib.Core.Bool.{not}
use lib.Dec.{eqb}
use Rattle.half.specs.Half.{widened}
use Rattle.conversion.proofs.Scales.{changes-pattern}
use Rattle.conversion.proofs.is_changed.Goals as goal

pub returns : goal.returns
returns c =
    let back = c.f16_bits_to_f32.ensures.equals ∙ ap widened c.requires in
    ap (λ y. not (eqb y c.args.scale)) back ∙ sym (changes-pattern c.args.scale)
