use mathlib.Core.Path.{sym, ◌∙◌}
use mathlib.Core.List.{map}
use Prim.Native.Nat.{ℕ, ◌<◌}
use native.Mathlib.Omega.{arith}
use lib.ListN.{length, get_or, length-set, length-map, get_or-map}
use lib.Ieee.{Float, nan}
use Rattle.pattern.specs.Binary32.{+0}
use Rattle.lists.proofs.Laws.{begun-next, begun_all, get_d_default}
use Rattle.lists.proofs.Front.{each_at}
use Rattle.hits.proofs.write_scores.Goals as goal

pub loop-i-preserved : goal.loop-i-preserved
loop-i-preserved c =
    let a = c.args in
    let at = c.loop-i in
    let in-range : get_or a.slots.now at.i 0 < length a.all.now =
    each_at (λ i. i < length a.all.now) a.slots.now at.i 0 c.requires.slots_within c.loop-i-test.true in
    let read : ℕ → Float = λ s. get_or a.all.now s +0 in
    let slots = a.slots.now in (
      omega arith,
      simp length-set (omega arith),
      begun-next (map read slots) a.scores.now at.scores at.i (read 0) _ (omega arith) (rw length-map (omega arith)) at.invariant.2
          (get_d_default a.all.now (get_or slots at.i 0) nan +0 in-range ∙ sym (get_or-map read slots at.i 0)),
    )

pub returns : goal.returns
returns c =
    let a = c.args in
    let at = c.loop-i in
    at.invariant.2 ∙ begun_all (map (λ (s : ℕ). get_or a.all.now s +0) a.slots.now) a.scores.now at.i (rw length-map (omega arith)) (rw length-map (omega arith))
