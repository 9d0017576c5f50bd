use native.Mathlib.Omega.{arith}
use mathlib.Core.Path.{refl, ◌∙◌}
use Rattle.hits.proofs.Entering.{enters_stop, enters_more}
use Rattle.hits.proofs.enter_group.Goals as goal

pub returns-then-not-enter_slot : goal.returns-then-not-enter_slot
returns-then-not-enter_slot c =
    λ marks lives.
    let at = c.loop-k in
    let e = c.enter_slot.ensures marks (c.is_set.ensures ∙ lives.each at.k (omega arith)) in
    enters_stop (enters_more (at.invariant.3 marks lives) e refl refl c.if-not-enter_slot.true) (omega arith)

pub loop-k-preserved : goal.loop-k-preserved
loop-k-preserved c =
    let at = c.loop-k in (
      omega arith,
      omega (arith, c.enter_slot.auto),
      omega (arith, c.enter_slot.auto),
      λ marks lives.
          let e = c.enter_slot.ensures marks (c.is_set.ensures ∙ lives.each at.k (omega arith)) in
          enters_more (at.invariant.3 marks lives) e refl refl c.if-not-enter_slot.false,
    )
