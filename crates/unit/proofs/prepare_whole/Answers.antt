use mathlib.Core.Path.{ap, ◌∙◌}
use Rattle.unit.specs.Unit.{norm, unit}
use Rattle.unit.proofs.Vectors.{rotated-whole}
use Rattle.unit.proofs.prepare_whole.Goals as goal

pub returns-clause-rnorm : goal.returns-clause-rnorm
returns-clause-rnorm c =
    c.normalize.ensures.norm ∙ ap norm (c.rotate.ensures ∙ rotated-whole _ _ _ _ c.requires.is_rotatable c.requires.out_length)

pub returns-clause-prepared : goal.returns-clause-prepared
returns-clause-prepared c =
    c.normalize.ensures.unit ∙ ap unit (c.rotate.ensures ∙ rotated-whole _ _ _ _ c.requires.is_rotatable c.requires.out_length)
