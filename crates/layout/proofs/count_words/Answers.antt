use Rattle.std.proofs.Common.{refl, ◌∙◌, arith}
use Rattle.layout.specs.Counts.{counts_of}
use Rattle.layout.proofs.Words.{few-of, counts-more, summable}
use Rattle.layout.proofs.count_words.Goals as goal

pub loop-i-init : goal.loop-i-init
unfolding counts_of
loop-i-init c = refl

pub count_word-word-requires : goal.count_word-word-requires
count_word-word-requires c =
    (rw c.of_word.ensures (few-of c.args.keyed.now c.loop-i.i), rw c.of_word-in-loop-i.ensures (few-of c.args.years.now c.loop-i.i))

pub together-next-requires : goal.together-next-requires
together-next-requires c =
    let a = c.args in
    let word = rw (c.of_word.ensures, c.of_word-in-loop-i.ensures) at c.count_word-word.ensures in
    summable _ _ _ _ _ _ (counts-more a.alive.now c.loop-i.i a.keyed.now a.years.now _ _ c.loop-i.invariant word) (omega (arith, c.loop-i-test.true, c.requires.1))

pub loop-i-preserved : goal.loop-i-preserved
loop-i-preserved c =
    let a = c.args in
    let word = rw (c.of_word.ensures, c.of_word-in-loop-i.ensures) at c.count_word-word.ensures in
    c.together-next.ensures ∙ counts-more a.alive.now c.loop-i.i a.keyed.now a.years.now _ _ c.loop-i.invariant word
