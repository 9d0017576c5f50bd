use mathlib.Core.Path.{ap, ◌∙◌}
use borrow.Author.Rules.{rules}
use Rattle.index.specs.Verdict.{verdict}
use Rattle.words.specs.Exports.{left}
use Rattle.words.proofs.Exports.{unread-left, made-left}
use Rattle.answer_words.proofs.Verdicts.{put-verdict}
use Rattle.compact_exports.proofs.vecq_raw_compact.Goals as goal

pub returns-in_default : goal.returns-in_default
returns-in_default c = unread-left _ _ c.record_in.ensures _ _ c.in_default.is

-- the caller's arrays hold what the lent ones do at the end of the call
pub returns : goal.returns
returns c =
    ap (left _ _ _) (search rules)
    ∙ made-left _ _ c.record_in.ensures _ _ _ c.in-Some.is _ (verdict c.compact-compacted.result) c.compact-compacted.ensures.answers _ _ (put-verdict _ _ _ c.put_made.ensures)
