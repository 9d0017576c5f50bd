use mathlib.Core.Path.{ap, ◌∙◌}
use native.Mathlib.Omega.{arith}
use borrow.Author.Rules.{rules}
use Rattle.index.specs.Verdict.{verdict}
use Rattle.words.specs.Exports.{left}
use Rattle.words.proofs.Exports.{read_short, read_done}
use Rattle.answer_words.proofs.Verdicts.{put-verdict}
use Rattle.read_exports.proofs.vecq_raw_from_bytes.Goals as goal

pub returns-then-fields-lt-RECORD_WORDS : goal.returns-then-fields-lt-RECORD_WORDS
returns-then-fields-lt-RECORD_WORDS c =
    read_short _ _ _ c.if-fields-lt-RECORD_WORDS.true c.without_place.result (rw (c.check.ensures, c.view.ensures) at c.without_place.ensures)

-- the caller's arrays hold what the lent ones do at the end of the call
pub returns : goal.returns
returns c =
    ap (left _ _ _) (search rules)
    ∙ read_done _ _ _ (omega (arith, c.if-fields-lt-RECORD_WORDS.false)) (verdict c.from_bytes-read.result) _ c.from_bytes-read.ensures.answers _ _ (put-verdict _ _ _ c.put_made.ensures)
