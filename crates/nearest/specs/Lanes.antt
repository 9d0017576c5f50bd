-- Words of the contracts on the way to a distance.
use Rattle.std.specs.Prelude.{cond, List, ℕ, ◌+◌, ◌/◌, ◌%◌, get_or, Float}
use Rattle.lists.specs.Lists.{tab, total}
use Rattle.marks.specs.Live.{live_at}
use Rattle.pattern.specs.Binary32.{◌⊗◌}
use Rattle.lloyd.specs.Quantizer.{quantized}
use Rattle.codes.specs.Packing.{code_at}
use Rattle.codes.specs.Slots.{block_at}
use Rattle.index.specs.Codec.{apart}
use Rattle.nearest.specs.Distances.{past}

-- the top two bits of the code of a prepared query's entry by a table, "the query's code taken of entry times rnorm"
unfoldable pub top_of : (boundaries : List Float) → (rnorm entry : Float) → ℕ
top_of boundaries rnorm x = quantized boundaries (x ⊗ rnorm) / 4

-- "the difference of the codes' top two bits" in a lane, of a query's top bits and a block
unfoldable pub lane_apart : (tops block : List ℕ) → ℕ → ℕ
lane_apart tops block i = apart (get_or tops i 0) (code_at 4 block i / 4)

-- "the sum over lanes"
unfoldable pub lanes_apart : (tops block : List ℕ) → (lanes : ℕ) → ℕ
lanes_apart tops block n = total (tab (lane_apart tops block) n)

-- the same of a byte, whose low code is in an even lane and whose high code in the next
unfoldable pub byte_apart : (even odd block : List ℕ) → ℕ → ℕ
byte_apart even odd block i = apart (get_or even i 0) (get_or block i 0 % 16 / 4) + apart (get_or odd i 0) (get_or block i 0 / 64)

unfoldable pub bytes_apart : (even odd block : List ℕ) → (bytes : ℕ) → ℕ
bytes_apart even odd block n = total (tab (byte_apart even odd block) n)

-- of a live slot's block, which has `size` bytes; `past` for a dead slot
unfoldable pub slot_apart : (codes alive : List ℕ) → (size : ℕ) → (tops : List ℕ) → (lanes : ℕ) → ℕ → ℕ
slot_apart codes alive size tops lanes i = cond (live_at alive i) (lanes_apart tops (block_at size i codes) lanes) past
