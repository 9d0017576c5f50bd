use mathlib.Core.Path.{◌≡◌, ap}
use mathlib.Core.List.{List}
use Prim.Native.Nat.{ℕ, ◌/◌, ◌≤◌}
use native.Mathlib.Omega.{arith}
use lib.ListN.{length, get_or}
use lib.Ieee.{Float, nan}
use Rattle.pattern.specs.Binary32.{◌⊗◌}
use Rattle.lloyd.specs.Quantizer.{quantized}
use Rattle.lloyd.proofs.Quantized.{quantized-le}
use Rattle.lists.proofs.Writing.{written_none, written-more, written-part}
use Rattle.nearest.specs.Lanes.{top_of}
use Rattle.nearest.proofs.distances.write_tops.Goals as goal

code-low : (bs : List Float) (x : Float) {code : ℕ} → length bs ≤ 15 → code ≡ quantized bs x → code ≤ 15
code-low bs x few e = omega (arith, quantized-le bs x)

top-of : (bs : List Float) (r x : Float) {code : ℕ} → code ≡ quantized bs (x ⊗ r) → code / 4 ≡ top_of bs r x
unfolding top_of
top-of bs r x e = ap (λ (n : ℕ). n / 4) e

pub loop-lane-init : goal.loop-lane-init
loop-lane-init c = written_none _ _ _ (omega arith)

pub overflow_cast-top : goal.overflow_cast-top
overflow_cast-top c =
    let low = code-low c.args.boundaries.now (get_or c.args.query.now c.loop-lane.lane nan ⊗ c.args.rnorm) c.requires.0 c.quantize_in.ensures in
    record { fits = omega (arith, low) }

pub loop-lane-preserved : goal.loop-lane-preserved
loop-lane-preserved c =
    let top = top-of c.args.boundaries.now c.args.rnorm (get_or c.args.query.now c.loop-lane.lane nan) c.quantize_in.ensures in
    rw top (written-more _ _ _ (omega arith) c.loop-lane.invariant c.loop-lane-test.true)

pub returns : goal.returns
returns c = written-part _ _ _ c.requires.2 c.loop-lane.invariant c.loop-lane-test.false
