use native.Mathlib.Omega.{arith}
use mathlib.Core.Path.{◌≡◌}
use Prim.Native.Nat.{◌+◌}
use lib.Dec.{eqb}
use lib.ListN.{get_or}
use Rattle.lists.proofs.Bits.{one_at_most}
use Rattle.nearest.proofs.Counting.{level-few}
use Rattle.nearest.proofs.Marking.{marking-none, marking-more, top-all}
use Rattle.nearest.proofs.Limit.mark_group.Goals as goal

pub loop-j-init : goal.loop-j-init
loop-j-init c = marking-none _ _ _ _ _ c.requires.3

pub overflow_add-all_seen : goal.overflow_add-all_seen
overflow_add-all_seen c =
    let m = c.loop-j in
    let i = c.args.first + m.j in
    let few = level-few c.args.distances.now c.args.self.distance i in
    omega (arith, m.invariant.ties-seen, few, one_at_most (eqb (get_or c.args.distances.now i 0) c.args.self.distance), c.loop-j-test.true, c.requires.0)

pub loop-j-preserved : goal.loop-j-preserved
loop-j-preserved c = marking-more c.loop-j.invariant (omega (arith, c.requires.2, c.loop-j-test.true)) _ c.is_marked.ensures

pub returns-clause-word : goal.returns-clause-word
returns-clause-word c =
    let e : c.loop-j.j ≡ c.args.many = omega arith in
    top-all (rw e at c.loop-j.invariant.bits) c.requires.2
