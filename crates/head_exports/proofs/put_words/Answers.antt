use native.Mathlib.Omega.{arith}
use lib.ListN.{length-set}
use lib.Seq.{sets-eq}
use Rattle.lists.specs.Lists.{over}
use Rattle.lists.proofs.Bits.{as-bit}
use Rattle.index.specs.Read.{header_in}
use Rattle.head_exports.specs.Head.{head_words}
use Rattle.head_exports.proofs.put_words.Goals as goal

pub bounds-answer-0 : goal.bounds-answer-0
unfolding head_words
bounds-answer-0 c = omega arith

pub bounds-answer-1 : goal.bounds-answer-1
unfolding head_words
bounds-answer-1 c = simp length-set (omega arith)

pub bounds-answer-2 : goal.bounds-answer-2
unfolding head_words
bounds-answer-2 c = simp length-set (omega arith)

pub bounds-answer-3 : goal.bounds-answer-3
unfolding head_words
bounds-answer-3 c = simp length-set (omega arith)

pub bounds-answer-4 : goal.bounds-answer-4
unfolding head_words
bounds-answer-4 c = simp length-set (omega arith)

pub bounds-answer-5 : goal.bounds-answer-5
unfolding head_words
bounds-answer-5 c = simp length-set (omega arith)

pub bounds-answer-6 : goal.bounds-answer-6
unfolding head_words
bounds-answer-6 c = simp length-set (omega arith)

pub returns : goal.returns
unfolding head_words over
returns c =
    let file = c.args.file.now in
    rw (c.head_in-head.ensures, as-bit (header_in file).residual) (sets-eq (head_words file) c.args.answer.now 0 c.requires)
