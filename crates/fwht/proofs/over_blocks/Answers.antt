use mathlib.Core.Path.{◌∙◌}
use native.Mathlib.Omega.{arith}
use Rattle.fwht.proofs.Walks.{walked_none, walked_fits, walked_more, walked_all}
use Rattle.fwht.proofs.over_blocks.Goals as goal

pub loop-i-init : goal.loop-i-init
loop-i-init g c = walked_none _ _ _ _ _ _

pub slice_bounds-over_columns-end : goal.slice_bounds-over_columns-end
slice_bounds-over_columns-end g c =
    omega (arith, walked_fits _ _ _ _ _ _ _ _ c.loop-i.invariant _ (c.PLACES.ensures ∙ g.met.T.Turn.places) c.requires.whole c.loop-i-test.true)

pub loop-i-preserved : goal.loop-i-preserved
loop-i-preserved g c = walked_more _ _ _ _ _ _ _ _ c.loop-i.invariant _ (c.PLACES.ensures ∙ g.met.T.Turn.places) c.requires.whole c.loop-i-test.true _ c.over_columns.ensures

-- after the last block
pub returns-2 : goal.returns-2
returns-2 g c =
    walked_all _ _ _ _ _ _ _ _
    (walked_more _ _ _ _ _ _ _ _ c.loop-i.invariant _ (c.PLACES.ensures ∙ g.met.T.Turn.places) c.requires.whole c.loop-i-test.true _ c.over_columns.ensures)
    (omega arith)
