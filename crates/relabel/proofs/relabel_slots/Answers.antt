use Rattle.std.proofs.Common.{arith}
use Rattle.std.proofs.lemmas.Grind.{common_steps}
use Rattle.lists.proofs.Writing.{written_none, written-part}
use Rattle.remarking.specs.Replaced.{replaced_where}
use Rattle.relabel.proofs.Loops.{key-changed, key-kept}
use Rattle.relabel.proofs.relabel_slots.Goals.{then-key-old+then-is_keyed, else-key-old, else-key-old-via-then-key-old+else-is_keyed, else-key-old-via-else-key-old}
use Rattle.relabel.proofs.relabel_slots.Goals as goal

pub loop-i-init : goal.loop-i-init
loop-i-init c = written_none _ _ _ (omega arith)

pub loop-i-preserved : goal.loop-i-preserved
loop-i-preserved c =
    let r = c.requires in
    let at = c.loop-i.invariant in
    let l = c.loop-i-test.true in
    elim c.if-key-old.branch [
      | then-key-old+then-is_keyed w ↦
          rw w.key-items-is (key-changed _ _ _ _ _ r at l (grind (arith, common_steps, w.is_keyed.ensures, w.if-is_keyed.true, w.if-key-old.true)))
      | else-key-old w ↦ elim w.else-key-old.branch [
        | else-key-old-via-then-key-old+else-is_keyed v ↦
            rw (w.key-items-is, v.key-items-is) (key-kept _ _ _ _ _ r at l (grind (arith, common_steps, v.is_keyed.ensures, v.if-is_keyed.false)))
        | else-key-old-via-else-key-old v ↦ rw (w.key-items-is, v.key-items-is) (key-kept _ _ _ _ _ r at l (grind (arith, common_steps, v.if-key-old.false)))
      ]
    ]

pub returns : goal.returns
unfolding replaced_where
returns c = written-part _ _ _ c.requires c.loop-i.invariant c.loop-i-test.false
