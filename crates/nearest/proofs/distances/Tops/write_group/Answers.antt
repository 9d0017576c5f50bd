use native.Mathlib.Omega.{arith}
use mathlib.Core.Path.{◌≡◌, sym, ◌∙◌}
use mathlib.Core.Bool.{cond}
use Prim.Native.Nat.{ℕ, ◌+◌}
use lib.ListN.{length, get_or, get_or-replicate}
use Rattle.marks.specs.Word.{live_in}
use Rattle.codes.specs.Slots.{block_at}
use Rattle.nearest.specs.Lanes.{lanes_apart}
use Rattle.nearest.specs.Distances.{past}
use Rattle.lists.proofs.Writing.{written_none, written-more, written-whole}
use Rattle.nearest.proofs.Groups.{written-rest}
use Rattle.nearest.proofs.distances.Tops.write_group.Goals.{then-is_set, else-is_set}
use Rattle.nearest.proofs.distances.Tops.write_group.Goals as goal

pub loop-k-init : goal.loop-k-init
loop-k-init c = written_none _ _ _ (omega arith)

pub loop-k-preserved : goal.loop-k-preserved
loop-k-preserved c =
    let at = c.loop-k in
    let a = c.args in
    let measured : ℕ → ℕ = λ k. cond (live_in a.live k) (lanes_apart a.self.now.all.now (block_at a.size (a.first + k) a.codes.now) a.self.now.lanes) past in
    let dead : get_or c.fill.new.self at.k 0 ≡ past = rw (c.fill.ensures.after (λ y w. w)) (get_or-replicate (length a.distances.now) at.k past 0 (omega (arith, c.fill.ensures.len, c.loop-k-test.true))) in
    elim c.if-is_set.branch [
      | then-is_set w ↦
          let d : w.lanes_apart.result ≡ measured at.k = w.lanes_apart.ensures ∙ rw (sym c.is_set.ensures ∙ w.if-is_set.true, w.slot_codes.ensures) in
          rw (w.distances-is, d) (written-more measured _ _ (omega arith) at.invariant c.loop-k-test.true)
      | else-is_set w ↦
          let d : get_or at.distances at.k 0 ≡ measured at.k = written-rest measured _ _ _ _ at.invariant ∙ dead ∙ rw (sym c.is_set.ensures ∙ w.if-is_set.false) in
          rw (w.distances-is, d) (written-more measured _ _ (omega arith) at.invariant c.loop-k-test.true)
    ]

pub returns : goal.returns
returns c = rw (c.fill.ensures.len) at (written-whole _ _ c.loop-k.invariant c.loop-k-test.false)
