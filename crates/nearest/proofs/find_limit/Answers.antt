use mathlib.Core.Path.{◌≡◌, sym, ◌∙◌}
use mathlib.Core.Logic.{inl, inr}
use mathlib.Core.List.{List}
use Prim.Native.Nat.{ℕ, ◌<◌}
use native.Mathlib.Omega.{arith}
use lib.ListN.{length, get_or, take, replicate, length-replicate}
use lib.Seq.{length-take-le, get_or-take}
use Rattle.lists.proofs.Laws.{get_or-zeros}
use Rattle.nearest.specs.Distances.{past}
use Rattle.nearest.specs.Limit.{level}
use Rattle.nearest.proofs.Counting.{nearer-none, nearer-few, nearer-more, limit-reached, limit-past}
use Rattle.nearest.proofs.find_limit.Goals as goal

-- what stands for a distance once all are counted; the counts of dead slots are left out
module _ (xs counts : List ℕ) (size : length counts ≡ length (replicate {A = ℕ} 12353 0)) where
  live : length (take past counts) ≡ past
  live = let long : length counts ≡ 12353 = size ∙ length-replicate {A = ℕ} 12353 0 in length-take-le past counts (omega (arith, long))

  counted : (d : ℕ) → ((d : ℕ) → d < past → get_or counts d 0 ≡ level xs d (length xs)) → d < length (take past counts) →
      (d < past) × (get_or (take past counts) d 0 ≡ level xs d (length xs))
  counted d all l = let near : d < past = rw live at l in (near, get_or-take past counts d 0 near ∙ all d near)

pub count_distances-requires-clause-room : goal.count_distances-requires-clause-room
count_distances-requires-clause-room c = omega (arith, length-replicate {A = ℕ} 12353 0)

pub count_distances-requires-clause-zero : goal.count_distances-requires-clause-zero
count_distances-requires-clause-zero c = get_or-zeros 12353

pub loop-distance-init : goal.loop-distance-init
loop-distance-init c = nearer-none _ _

pub slice_bounds-count-items-end : goal.slice_bounds-count-items-end
slice_bounds-count-items-end c = sym (live c.args.distances.now _ c.count_distances.auto.counts)

pub overflow_add-reached : goal.overflow_add-reached
overflow_add-reached c =
    let here = counted c.args.distances.now _ c.count_distances.auto.counts c.loop-distance.distance c.count_distances.ensures c.loop-distance-test.true in
    let few = nearer-few c.loop-distance.invariant here.0 _ here.1 in
    record { fits = omega (arith, few, c.requires.few) }

pub returns-then-r-reached : goal.returns-then-r-reached
returns-then-r-reached c =
    let here = counted c.args.distances.now _ c.count_distances.auto.counts c.loop-distance.distance c.count_distances.ensures c.loop-distance-test.true in
    inl (limit-reached c.loop-distance.invariant here.0 _ here.1 c.if-r-reached.true)

pub loop-distance-preserved : goal.loop-distance-preserved
loop-distance-preserved c =
    let here = counted c.args.distances.now _ c.count_distances.auto.counts c.loop-distance.distance c.count_distances.ensures c.loop-distance-test.true in
    nearer-more c.loop-distance.invariant here.0 _ here.1 c.if-r-reached.false

pub returns : goal.returns
returns c = inr (limit-past c.loop-distance.invariant (rw (live c.args.distances.now _ c.count_distances.auto.counts) at c.loop-distance-test.false))
