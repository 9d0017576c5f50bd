use mathlib.Core.Path.{ap, ◌∙◌}
use native.Mathlib.Omega.{arith}
use borrow.Author.Rules.{rules}
use Rattle.index.specs.Verdict.{verdict}
use Rattle.words.specs.Exports.{left}
use Rattle.words.proofs.Exports.{make-short, make-done}
use Rattle.answer_words.proofs.Verdicts.{put-verdict}
use Rattle.make_exports.proofs.vecq_raw_with_working_dim.Goals as goal

pub returns-then-fields-lt-RECORD_WORDS : goal.returns-then-fields-lt-RECORD_WORDS
returns-then-fields-lt-RECORD_WORDS c =
    make-short _ _ _ c.if-fields-lt-RECORD_WORDS.true c.without_place.result (rw (c.check-check.ensures, c.view.ensures) at c.without_place.ensures)

-- the caller's arrays hold what the lent ones do at the end of the call
pub returns : goal.returns
returns c =
    ap (left _ _ _) (search rules)
    ∙ make-done _ _ _ (omega (arith, c.if-fields-lt-RECORD_WORDS.false)) (verdict c.with_working_dim-made_working.result) _
    c.with_working_dim-made_working.ensures.answers _ _ (put-verdict _ _ _ c.put_made.ensures)
