use Rattle.words.proofs.Words.{refusal-put}
use Rattle.key_exports.proofs.put_held.Goals as goal

pub returns-in-Err : goal.returns-in-Err
returns-in-Err c = rw (c.in-Err.is, c.from.ensures) (refusal-put _ _)
