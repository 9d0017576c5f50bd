use Rattle.index.specs.Verdict.{verdict}
use Rattle.words.proofs.Exports.{unread-left, made-left}
use Rattle.answer_words.proofs.Verdicts.{put-verdict}
use Rattle.settings_exports.proofs.vecq_raw_enable_cascade.Goals as goal

pub returns-in_default : goal.returns-in_default
returns-in_default c = unread-left _ _ c.record_in.ensures _ _ c.in_default.is

pub returns : goal.returns
returns c =
    made-left _ _ c.record_in.ensures _ _ _ c.in-Some.is _ (verdict c.enable_cascade-cascade_enabled.result) c.enable_cascade-cascade_enabled.ensures _ _ (put-verdict _ _ _ c.put_made.ensures)
