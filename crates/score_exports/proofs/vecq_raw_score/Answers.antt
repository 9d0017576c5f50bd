use Rattle.words.proofs.Exports.{misfit-left, told-left, scored-words}
use Rattle.score_exports.proofs.vecq_raw_score.Goals as goal

pub returns-in_default : goal.returns-in_default
returns-in_default c = misfit-left _ _ _ _ c.record_beside.ensures _ _ c.in_default.is

pub returns : goal.returns
returns c =
    told-left _ _ _ _ c.record_beside.ensures _ c.in-Some.is _ _ _ c.score-scored.ensures (scored-words c.score-scored.result) _ _ c.put_scored.ensures
