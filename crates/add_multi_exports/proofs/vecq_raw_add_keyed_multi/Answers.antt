use mathlib.Core.Path.{ap, ◌∙◌}
use borrow.Author.Rules.{rules}
use Rattle.index.specs.Verdict.{verdict}
use Rattle.words.specs.Exports.{left}
use Rattle.words.proofs.Exports.{misfit-left, added-left}
use Rattle.answer_words.proofs.Verdicts.{put-verdict}
use Rattle.add_multi_exports.proofs.vecq_raw_add_keyed_multi.Goals as goal

pub returns-in_default : goal.returns-in_default
returns-in_default c = misfit-left _ _ _ _ c.record_beside.ensures _ _ c.in_default.is

-- the caller's arrays hold what the lent ones do at the end of the call
pub returns : goal.returns
returns c =
    ap (left _ _ _) (search rules)
    ∙ added-left _ _ _ c.record_beside.ensures _ c.in-Some.is _ _ _ (verdict c.add_keyed_multi-added_multi.result) c.add_keyed_multi-added_multi.ensures.answers _ _ _ (put-verdict _ _ _ c.put_added.ensures)
