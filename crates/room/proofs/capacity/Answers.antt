use mathlib.Core.Path.{sym}
use Rattle.index.specs.Lent.{contents}
use Rattle.index.specs.State.{header_of}
use Rattle.room.proofs.Rooms.{capacity-none, capacity-plain, capacity-residual}
use Rattle.room.proofs.capacity.Goals as goal

pub returns-then-bytes-eq0 : goal.returns-then-bytes-eq0
returns-then-bytes-eq0 c = sym (capacity-none (header_of c.args.index) (contents c.args.arrays.now) _ c.block_size-bytes.ensures c.if-bytes-eq0.true)

pub returns-then-index : goal.returns-then-index
returns-then-index c =
    rw (c.min-then-index-2.ensures, c.min-then-index.ensures, c.min-marks.ensures, c.min-5.ensures, c.places.ensures, c.min-4.ensures, c.min-3.ensures, c.min-2.ensures, c.min-first.ensures, c.min.ensures)
    (sym (capacity-residual (header_of c.args.index) (contents c.args.arrays.now) _ c.block_size-bytes.ensures c.if-bytes-eq0.false c.if-index.true))

pub returns : goal.returns
returns c =
    rw (c.min-marks.ensures, c.min-5.ensures, c.places.ensures, c.min-4.ensures, c.min-3.ensures, c.min-2.ensures, c.min-first.ensures, c.min.ensures)
    (sym (capacity-plain (header_of c.args.index) (contents c.args.arrays.now) _ c.block_size-bytes.ensures c.if-bytes-eq0.false c.if-index.false))
