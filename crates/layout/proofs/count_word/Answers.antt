use Rattle.std.proofs.Common.{refl}
use Rattle.layout.proofs.Words.{word-counts}
use Rattle.layout.proofs.count_word.Goals as goal

pub returns : goal.returns
returns c =
    let a = c.args in
    word-counts a.keyed.now a.years.now a.word c.spread-bits.result _ _ _ c.ranges.word.fits c.requires.0 c.requires.1 c.spread-bits.ensures refl
    c.entries_beside.ensures c.dates_beside.ensures
