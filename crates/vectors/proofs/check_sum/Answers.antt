use Rattle.vectors.proofs.FloatTests.{fault-nan, fault-zero, fault-infinite, no-fault}
use Rattle.vectors.proofs.check_sum.Goals as goal

pub returns-then-is_nan : goal.returns-then-is_nan
returns-then-is_nan c = fault-nan _ c.if-is_nan.ensures.value

pub returns-then-sum : goal.returns-then-sum
returns-then-sum c = fault-zero _ c.if-sum.true

pub returns-then-is_infinite : goal.returns-then-is_infinite
returns-then-is_infinite c = fault-infinite _ c.if-is_infinite.ensures.value

pub returns : goal.returns
returns c = no-fault _ c.if-is_nan.ensures.value c.if-sum.false c.if-is_infinite.ensures.value
