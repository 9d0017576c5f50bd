use mathlib.Core.Path.{◌≡◌}
use Prim.Native.Nat.{ℕ, ◌≤◌, ◌<◌}
use native.Mathlib.Omega.{arith}
use Rattle.nearest.specs.Lanes.{lane_apart, lanes_apart}
use Rattle.nearest.proofs.Lanes.{gained-more, gained-all, gained-most, lane-read, lane_low}
use Rattle.nearest.proofs.distances.Tops.rest_apart.Goals as goal

pub overflow_add-sum : goal.overflow_add-sum
overflow_add-sum c =
    let m = c.loop-lane in
    let s = c.args.self.now in
    let lane : c.abs_diff.result ≡ lane_apart s.all.now c.args.block.now m.lane = lane-read _ _ _ _ _ c.unpack_code.ensures c.abs_diff.ensures in
    let low : (i : ℕ) → i < s.lanes → lane_apart s.all.now c.args.block.now i ≤ 3 = λ i l. lane_low _ _ i (s.low i l) in
    let so_far = gained-most m.invariant 3 (λ j l. low j (omega (arith, l, c.loop-lane-test.true))) in
    record { fits = omega (arith, s.few, lane, low m.lane c.loop-lane-test.true, so_far, c.loop-lane-test.true) }

pub loop-lane-preserved : goal.loop-lane-preserved
loop-lane-preserved c =
    let lane : c.abs_diff.result ≡ lane_apart c.args.self.now.all.now c.args.block.now c.loop-lane.lane = lane-read _ _ _ _ _ c.unpack_code.ensures c.abs_diff.ensures in
    gained-more c.loop-lane.invariant c.loop-lane-test.true _ lane

pub returns : goal.returns
unfolding lanes_apart
returns c = gained-all c.loop-lane.invariant c.loop-lane-test.false
