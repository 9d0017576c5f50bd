use mathlib.Core.Path.{sym}
use Prim.Native.Nat.{◌^◌}
use native.Mathlib.Numerals.{add-one}
use native.Mathlib.Omega.{arith}
use Rattle.digits.proofs.Below.{below_next}
use Rattle.packing.proofs.all_fit.Goals as goal

pub loop-code-preserved : goal.loop-code-preserved
loop-code-preserved c =
    let a = c.args in
    let at = c.loop-code in
    rw (at.invariant, c.power-base.ensures, add-one at.code-index, c.from.ensures) (sym (below_next (2 ^ a.bits) a.codes.now at.code-index (omega arith)))
