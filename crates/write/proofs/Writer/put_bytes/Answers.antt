use Rattle.std.proofs.Common.{refl, arith}
use Rattle.std.proofs.lemmas.Grind.{common_steps}
use Rattle.lists.proofs.Writing.{written_none, written-more}
use Rattle.write.proofs.Putting.{copied-whole, put-copied}
use Rattle.write.proofs.Writer.put_bytes.Goals as goal

pub loop-i-init : goal.loop-i-init
loop-i-init c = written_none _ _ _ (omega arith)

pub loop-i-preserved : goal.loop-i-preserved
loop-i-preserved c = written-more _ _ _ (omega arith) c.loop-i.invariant c.loop-i-test.true

pub returns : goal.returns
returns c =
    let e = copied-whole _ _ (grind (arith, common_steps)) c.loop-i.invariant c.loop-i-test.false in
    put-copied _ _ c.requires refl (grind (arith, common_steps, e)) refl
