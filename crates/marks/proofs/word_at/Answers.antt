use mathlib.Core.Path.{◌≡◌, sym, ap, ◌∙◌}
use lib.Dec.{ltb}
use lib.ListN.{get_or}
use Rattle.std.proofs.Common.{rules}
use Rattle.digits.specs.Digits.{bit_of}
use Rattle.marks.proofs.Words.{mark-at}
use Rattle.marks.proofs.word_at.Goals as goal

pub returns : goal.returns
returns c =
    let word : c.unwrap_or.result ≡ get_or c.args.alive.now c.args.i 0 = search rules in
    record { each = λ j l. ap (ltb 0) (ap (λ w. bit_of w j) word ∙ sym (mark-at c.args.alive.now c.args.i j l)) }
