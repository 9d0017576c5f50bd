use Rattle.index.specs.Verdict.{verdict}
use Rattle.words.proofs.Exports.{misfit-left, changed-left}
use Rattle.answer_words.proofs.Verdicts.{put-verdict}
use Rattle.change_exports.proofs.vecq_raw_relabel.Goals as goal

pub returns-in_default : goal.returns-in_default
returns-in_default c = misfit-left _ _ _ _ c.record_beside.ensures _ _ c.in_default.is

pub returns : goal.returns
returns c =
    changed-left _ _ _ c.record_beside.ensures _ c.in-Some.is _ _ _ (verdict c.relabel-relabelled.result) c.relabel-relabelled.ensures _ _ _ (put-verdict _ _ _ c.put_changed.ensures)
