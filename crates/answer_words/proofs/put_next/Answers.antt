use Rattle.answer_words.proofs.Places.{none-few, both-put}
use Rattle.answer_words.proofs.put_next.Goals as goal

pub returns : goal.returns
returns c =
    both-put _ _ _ _ (rw (c.is_empty.ensures, none-few c.args.answer.now) at (c.if-fields-is_empty.false)) _ c.put_record.ensures _ _ c.put_word.ensures
