use native.Mathlib.Omega.{arith}
use Rattle.index.specs.State.{header_of}
use Rattle.place.proofs.Codes.{some-levels, place_end, place-end2, put-residual, put-plain}
use Rattle.place.proofs.put_code.Goals as goal

pub overflow_mul-from : goal.overflow_mul-from
overflow_mul-from c = omega (arith, place_end _ _ _ _ c.requires _ c.block_size-size.ensures)

pub overflow_add-to : goal.overflow_add-to
overflow_add-to c = omega (arith, place_end _ _ _ _ c.requires _ c.block_size-size.ensures)

pub slice_bounds-encode_by_width-end : goal.slice_bounds-encode_by_width-end
slice_bounds-encode_by_width-end c = place_end _ _ _ _ c.requires _ c.block_size-size.ensures

pub slice_bounds-encode_by_width-end-then-index : goal.slice_bounds-encode_by_width-end-then-index
slice_bounds-encode_by_width-end-then-index c = place-end2 _ _ _ _ c.requires _ c.block_size-size.ensures c.if-index.true

pub slice_bounds-encode_by_width-end-else-index : goal.slice_bounds-encode_by_width-end-else-index
slice_bounds-encode_by_width-end-else-index c = place_end _ _ _ _ c.requires _ c.block_size-size.ensures

pub encode_by_width-s-requires : goal.encode_by_width-s-requires
encode_by_width-s-requires c = some-levels (header_of c.args.index) c.requires.header

pub encode_by_width-s-requires-else-index : goal.encode_by_width-s-requires-else-index
encode_by_width-s-requires-else-index c = some-levels (header_of c.args.index) c.requires.header

pub returns-then-index-clause-code : goal.returns-then-index-clause-code
returns-then-index-clause-code c =
    let e = c.encode_by_width-s in
    put-residual _ _ _ _ c.requires _ c.block_size-size.ensures _ e.result e.new.block e.new.block2 c.if-index.true e.ensures

pub returns-else-index-clause-code : goal.returns-else-index-clause-code
returns-else-index-clause-code c =
    let e = c.encode_by_width-s-else-index in
    put-plain _ _ _ _ c.requires _ c.block_size-size.ensures _ e.result e.new.block e.new.block2 c.if-index.false e.ensures
