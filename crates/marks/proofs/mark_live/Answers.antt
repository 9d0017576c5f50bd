use mathlib.Core.Path.{ap, ◌∙◌}
use native.Mathlib.Omega.{arith}
use Rattle.lists.proofs.Writing.{written_none, written-more, written-whole}
use Rattle.marks.specs.Live.{marks_in}
use Rattle.marks.specs.Word.{first_word}
use Rattle.marks.proofs.Words.{marks-first}
use Rattle.marks.proofs.mark_live.Goals as goal

pub loop-i-init : goal.loop-i-init
loop-i-init c = written_none _ _ _ (omega arith)

pub loop-i-preserved : goal.loop-i-preserved
loop-i-preserved c = rw c.word_of_first.ensures (written-more _ _ _ (omega arith) c.loop-i.invariant c.loop-i-test.true)

pub returns : goal.returns
returns c =
    ap marks_in (written-whole (first_word c.args.n) c.args.alive.now c.loop-i.invariant c.loop-i-test.false) ∙ marks-first c.args.n c.args.alive.now
