use mathlib.Core.Path.{refl}
use native.Mathlib.Omega.{arith}
use Rattle.std.proofs.Common.{rules}
use lib.ListN.{length}
use Rattle.packing.proofs.Eights.{left-few, left-bytes, left-packable, left-written}
use Rattle.packing.proofs.put_codes.Goals as goal

pub overflow_mul-start : goal.overflow_mul-start
overflow_mul-start c = omega (arith, left-bytes _ _ c.args.block.now c.requires)

pub slice_bounds-put_rest-count : goal.slice_bounds-put_rest-count
slice_bounds-put_rest-count c = omega (arith, left-bytes _ _ c.args.block.now c.requires, c.put_eights.auto)

pub slice_bounds-put_rest-start : goal.slice_bounds-put_rest-start
slice_bounds-put_rest-start c = omega (arith, left-bytes _ _ c.args.block.now c.requires, c.put_eights.auto)

pub put_rest-requires : goal.put_rest-requires
put_rest-requires c =
    let first = c.put_eights in
    record {
      codes = left-packable c.args.bits c.args.codes.now c.args.block.now c.requires first.new.block (length first.new.block) (omega arith) refl;
      few = left-few c.args.bits c.args.codes.now c.args.block.now c.requires;
    }

pub returns : goal.returns
returns c =
    let first = c.put_eights in
    left-written c.args.bits c.args.codes.now c.args.block.now c.requires first.new.block (length first.new.block) (omega arith) refl (λ k. search rules) first.ensures _ c.put_rest.ensures
