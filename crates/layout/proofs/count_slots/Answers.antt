use Prim.Native.Nat.{◌/◌}
use Rattle.std.proofs.Common.{◌≡◌, min, length, ap, ◌∙◌, arith}
use Rattle.marks.specs.Live.{marks_in}
use Rattle.marks.proofs.Words.{length-marks}
use Rattle.layout.specs.Counts.{counts_of}
use Rattle.layout.proofs.Counting.{counts-there}
use Rattle.layout.proofs.Words.{few-of, counts-last, summable}
use Rattle.layout.proofs.count_slots.Goals as goal

pub count_word-last-requires : goal.count_word-last-requires
count_word-last-requires c =
    let i = c.min-slots.result / 64 in
    (rw c.of_word.ensures (few-of c.args.keyed.now i), rw c.of_word-2.ensures (few-of c.args.years.now i))

pub together-requires : goal.together-requires
together-requires c =
    let a = c.args in
    let last = rw (c.of_word.ensures, c.of_word-2.ensures, c.first_bits-word.ensures) at c.count_word-last.ensures in
    let counts = counts-last (marks_in a.alive.now) c.min-slots.result _ c.word_at.ensures a.keyed.now a.years.now _ _ c.count_words-first.ensures last in
    summable _ _ _ _ _ _ counts (omega (arith, c.min-slots.ensures, c.ranges.n.fits))

pub returns : goal.returns
returns c =
    let a = c.args in
    let marks = marks_in a.alive.now in
    let n = c.min-slots.result in
    let last = rw (c.of_word.ensures, c.of_word-2.ensures, c.first_bits-word.ensures) at c.count_word-last.ensures in
    let e : n ≡ min a.n (length marks) = omega (arith, length-marks a.alive.now) in
    c.together.ensures ∙ counts-last marks n _ c.word_at.ensures a.keyed.now a.years.now _ _ c.count_words-first.ensures last
    ∙ ap (counts_of a.keyed.now a.years.now marks) e ∙ counts-there a.keyed.now a.years.now marks a.n
