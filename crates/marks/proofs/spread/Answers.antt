use mathlib.Core.Path.{refl, ap, ◌∙◌}
use native.Mathlib.Omega.{arith}
use lib.Dec.{ltb}
use Rattle.marks.proofs.Words.{spread-live, mask-is, spread-more}
use Rattle.marks.proofs.spread.Goals as goal

pub loop-j-init : goal.loop-j-init
loop-j-init c = (refl, λ k l. absurd (omega arith))

pub loop-j-preserved : goal.loop-j-preserved
loop-j-preserved c =
    let v = c.loop-j.invariant in
    rw (mask-is c.loop-j.j) (spread-more c.args.word c.loop-j.j c.loop-j.mark-items v.0 c.loop-j-test.true v.1)

pub returns : goal.returns
returns c =
    record { each = λ j l. ap (ltb 0) (c.loop-j.invariant.1 j (omega (arith, c.loop-j-test.false))) ∙ spread-live c.args.word j }
