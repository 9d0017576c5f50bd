use Rattle.std.proofs.Common.{sym, ◌∙◌}
use Rattle.write.proofs.Putting.{put-more, piece-put}
use Rattle.write.proofs.Writer.put_entry.Goals as goal

pub returns : goal.returns
returns c =
    piece-put _ _ (sym c.has_entry.ensures ∙ c.if-not-has_entry.false) (put-more c.put_number.ensures (rw c.key_word.ensures at c.put_number-2.ensures))
