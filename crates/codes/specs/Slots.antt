-- The blocks of all slots, one after the other in one array.
use Rattle.std.specs.Prelude.{List, [], cond, ℕ, ◌+◌, ◌*◌, leb, length, take, drop}

-- "the slice from slot times bytes-per-vector": the block of a slot, nothing where the array does not have it whole
unfoldable pub block_at : ℕ → ℕ → List ℕ → List ℕ
block_at bytes slot xs = cond (leb (slot * bytes + bytes) (length xs)) (take bytes (drop (slot * bytes) xs)) []
