use native.Mathlib.Omega.{arith}
use borrow.Author.Rules.{rules}
use Rattle.head_exports.specs.Head.{head_words}
use Rattle.head_exports.proofs.Head.{head-refused, head-short, head-put}
use Rattle.head_exports.proofs.vecq_raw_head.Goals as goal

pub returns-in-Err : goal.returns-in-Err
returns-in-Err c = rw c.from.ensures (head-refused _ _ c.in-Err.refusal c.in-Err.ensures)

pub returns-then-answer-lt-HEAD_WORDS : goal.returns-then-answer-lt-HEAD_WORDS
unfolding head_words
returns-then-answer-lt-HEAD_WORDS c = head-short _ _ c.in_default.ensures (omega (arith, c.if-answer-lt-HEAD_WORDS.true))

pub put_words-requires : goal.put_words-requires
unfolding head_words
put_words-requires c = search rules

pub returns : goal.returns
unfolding head_words
returns c = head-put _ _ c.in_default.ensures (omega (arith, c.if-answer-lt-HEAD_WORDS.false)) c.put_words.ensures
