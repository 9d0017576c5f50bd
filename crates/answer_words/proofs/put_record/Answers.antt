use lib.Seq.{sets-eq}
use Rattle.lists.specs.Lists.{over}
use Rattle.lists.proofs.Bits.{as-bit}
use Rattle.words.specs.Words.{words_of}
use Rattle.answer_words.proofs.put_record.Goals as goal

pub returns : goal.returns
unfolding over words_of
returns c =
    let index = c.args.index in
    rw (as-bit index.residual, as-bit index.cascade) (sets-eq (words_of index) c.args.fields.now 0 c.requires)
