use mathlib.Core.Path.{◌∙◌}
use Rattle.encode.proofs.FloatTests.{larger-nan, larger-right, larger-left, floor-is}
use Rattle.encode.proofs.at_least_floor.Goals as goal

pub returns-then-is_nan : goal.returns-then-is_nan
returns-then-is_nan c = floor-is ∙ larger-nan _ _ c.if-is_nan.ensures.value

pub returns-then-x : goal.returns-then-x
returns-then-x c = floor-is ∙ larger-right _ _ c.if-is_nan.ensures.value (rw floor-is at c.if-x.true)

pub returns : goal.returns
returns c = larger-left _ _ c.if-is_nan.ensures.value (rw floor-is at c.if-x.false)
