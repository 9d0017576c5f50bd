use mathlib.Core.Path.{ap, ◌∙◌}
use mathlib.Core.List.{List, [], ◌∷◌}
use Prim.Native.Nat.{ℕ}
use native.Mathlib.Omega.{arith}
use lib.Seq.{sets-eq}
use Rattle.lists.specs.Lists.{over}
use Rattle.words.specs.Put.{put}
use Rattle.words.proofs.Words.{words-short, words-put}
use Rattle.key_exports.proofs.put_some.Goals as goal

-- `key_exports::put_some` meets its contract.
pub returns-then-answer-lt2 : goal.returns-then-answer-lt2
returns-then-answer-lt2 c = words-short _ _ _ (omega (arith, c.if-answer-lt2.true))

pub returns : goal.returns
unfolding over
returns c =
    let new : List ℕ = 1 ∷ c.args.word ∷ [] in
    ap (put 0) (sets-eq new c.args.answer.now 0 (omega (arith, c.if-answer-lt2.false))) ∙ words-put 0 new c.args.answer.now (omega (arith, c.if-answer-lt2.false))
