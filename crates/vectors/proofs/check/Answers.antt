use Rattle.vectors.proofs.Faults.{other_length, first-entries, all-entries}
use Rattle.vectors.proofs.check.Goals as goal

pub returns-then-v-dim : goal.returns-then-v-dim
returns-then-v-dim c = other_length _ _ _ c.if-v-dim.true

pub returns-then-working_dim-dim : goal.returns-then-working_dim-dim
returns-then-working_dim-dim c = first-entries _ _ _ c.if-v-dim.false _ _ c.check_sum.ensures c.sum_squares.ensures

pub returns : goal.returns
returns c = all-entries _ _ _ c.if-v-dim.false _ _ c.check_sum-2.ensures c.if-working_dim-dim.false c.sum_squares-2.ensures
