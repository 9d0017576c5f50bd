use Prim.Native.Nat.{◌+◌, ◌-◌, ◌*◌, ◌^◌}
use native.Mathlib.Omega.{arith}
use lib.ListN.{drop}
use Rattle.digits.proofs.Below.{below-take, below-drop}
use Rattle.packing.proofs.Eights.{eights-none, eight-codes, eight-bytes, eights-next}
use Rattle.packing.proofs.put_eights_at.Goals as goal

pub loop-k-init : goal.loop-k-init
loop-k-init c = let a = c.args in eights-none a.bits a.codes.now a.block.now

pub joined-value-requires : goal.joined-value-requires
joined-value-requires c =
    let w = c.args.bits in
    let codes = c.args.codes.now in
    let k = c.loop-k.k in (
      c.requires.width.most,
      omega (arith, eight-codes w codes c.args.block.now c.requires k (omega arith)),
      below-take (2 ^ w) (8 * k + 8 - 8 * k) (drop (8 * k) codes) (below-drop (2 ^ w) (8 * k) codes c.requires.fit),
    )

pub overflow_mul-start : goal.overflow_mul-start
overflow_mul-start c = omega (arith, eight-bytes _ _ c.args.block.now c.requires c.loop-k.k (omega arith))

pub overflow_add-end : goal.overflow_add-end
overflow_add-end c = omega (arith, eight-bytes _ _ c.args.block.now c.requires c.loop-k.k (omega arith))

pub slice_bounds-put_number-end : goal.slice_bounds-put_number-end
slice_bounds-put_number-end c = omega (arith, eight-bytes _ _ c.args.block.now c.requires c.loop-k.k (omega arith), c.loop-k.invariant.same)

pub loop-k-preserved : goal.loop-k-preserved
loop-k-preserved c =
    let at = c.loop-k in
    eights-next _ _ _ c.requires at.k (omega arith) at.block _ _ at.invariant c.joined-value.ensures c.put_number.ensures
