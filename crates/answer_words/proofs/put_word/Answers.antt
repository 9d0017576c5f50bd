use mathlib.Core.Path.{ap, ◌∙◌}
use mathlib.Core.List.{List, [], ◌∷◌}
use Prim.Native.Nat.{ℕ, ◌≤◌}
use lib.ListN.{length}
use Rattle.std.proofs.Common.{arith}
use Rattle.std.proofs.lemmas.Grind.{common_steps}
use lib.Seq.{sets-eq}
use Rattle.lists.specs.Lists.{over}
use Rattle.words.specs.Put.{put}
use Rattle.words.proofs.Words.{words-short, words-put}
use Rattle.answer_words.proofs.put_word.Goals as goal

-- `answer_words::put_word` meets its contract.
pub returns-then-is_empty : goal.returns-then-is_empty
returns-then-is_empty c = words-short _ _ _ (grind (arith, common_steps, c.is_empty.ensures, c.if-is_empty.true))

pub returns : goal.returns
unfolding over
returns c =
    let new : List ℕ = c.args.word ∷ [] in
    let some : 1 ≤ length c.args.answer.now = grind (arith, common_steps, c.is_empty.ensures, c.if-is_empty.false) in
    ap (put 0) (sets-eq new c.args.answer.now 0 some) ∙ words-put 0 new c.args.answer.now some
