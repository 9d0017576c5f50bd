use mathlib.Core.Path.{◌∙◌}
use Rattle.words.proofs.Records.{few-places, enough-places}
use Rattle.words.proofs.record_beside.Goals as goal

-- `words::record_beside` meets its contract.
pub returns-then-answer-places : goal.returns-then-answer-places
returns-then-answer-places c = few-places _ _ _ c.if-answer-places.true

pub returns : goal.returns
returns c = c.record_in.ensures ∙ enough-places _ _ _ c.if-answer-places.false
