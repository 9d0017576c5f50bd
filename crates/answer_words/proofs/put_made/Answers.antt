use native.Mathlib.Omega.{arith}
use Rattle.words.specs.Put.{Puts}
use Rattle.answer_words.proofs.Places.{record-short, record-put}
use Rattle.answer_words.proofs.put_made.Goals as goal

pub returns-then-fields-ge-RECORD_WORDS : goal.returns-then-fields-ge-RECORD_WORDS
unfolding Puts
returns-then-fields-ge-RECORD_WORDS g c =
    rw c.in-Ok.is
    (record-put _ _ c.if-fields-ge-RECORD_WORDS.true c.put_record.ensures)

pub returns-else-fields-ge-RECORD_WORDS : goal.returns-else-fields-ge-RECORD_WORDS
unfolding Puts
returns-else-fields-ge-RECORD_WORDS g c = rw c.in-Ok.is (record-short _ _ (omega (arith, c.if-fields-ge-RECORD_WORDS.false)))
