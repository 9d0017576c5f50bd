-- Words of the contracts on the way: the running sums of a group of slots, and the scores that are made of them.
use Rattle.std.specs.Prelude.{◌≡◌, true, cond, List, ℕ, ◌+◌, ◌*◌, ◌%◌, ◌^◌, ◌≤◌, ◌<◌, eqb, length, take, drop, get_or, Float}
use Rattle.std.specs.Float.{nan, binary32}
use Rattle.std.specs.Float.Ieee.{of_bits}
use Rattle.pattern.specs.Binary32.{◌⊕◌, ◌⊗◌, +0}
use Rattle.lists.specs.Lists.{tab}
use Rattle.marks.specs.Live.{live_at}
use Rattle.codes.specs.Packing.{bytes_per_vector}
use Rattle.score.specs.Lanes.{lanes, bracketed}
use Rattle.scan.specs.Pairs.{byte_term, pair_products}

-- the k-th part of m entries
unfoldable pub part_at : {A : Type 0} → (m k : ℕ) → List A → List A
part_at m k xs = take m (drop (k * m) xs)

-- the running sums of a block by the tables: eight lanes at 4 bits, four at 5 and 6
unfoldable pub byte_lanes : (evens odds pairs : List Float) → (block : List ℕ) → List Float
byte_lanes evens odds pairs block = lanes 8 (tab (byte_term evens odds pairs block) (length block))

unfoldable pub wide_lanes : (w : ℕ) → (pairs query : List Float) → (block : List ℕ) → List Float
wide_lanes w pairs query block = lanes 4 (pair_products w pairs query block)

-- Of `many` slots from `first` on the marked ones among the first s have their sums in their parts.
pub record Summed (m : ℕ) (lanes_of : ℕ → List Float) (marks : List ℕ) (first many s : ℕ) (sums : List Float) : Type 0 where
  pub each : (k : ℕ) → k < s → k < many → live_at marks (first + k) ≡ true → part_at m k sums ≡ lanes_of (first + k)

-- the raw score of a block by the tables. At 4 bits nothing is left for the tail of a block of whole groups.
unfoldable pub raw_by : (w : ℕ) → (evens odds pairs query : List Float) → (block : List ℕ) → Float
raw_by w evens odds pairs query block = cond (eqb w 4) (bracketed 3 (byte_lanes evens odds pairs block) ⊕ +0) (bracketed 2 (wide_lanes w pairs query block))

-- the score of a slot's stage by the tables
unfoldable pub score_by : (w : ℕ) → (evens odds pairs query : List Float) → (size : ℕ) → (codes scales : List ℕ) → ℕ → Float
score_by w evens odds pairs query size codes scales i = raw_by w evens odds pairs query (part_at size i codes) ⊗ of_bits binary32 (get_or scales i 0)

-- the same of the k-th slot of a group, from its sums
unfoldable pub raw_from : (w : ℕ) → (sums : List Float) → (k : ℕ) → Float
raw_from w sums k = cond (eqb w 4) (bracketed 3 (part_at 8 k sums) ⊕ +0) (bracketed 2 (part_at 4 k sums))

-- From the sums of a group come the raw scores of its marked slots.
pub record Raw (w : ℕ) (raw : ℕ → Float) (marks : List ℕ) (first many : ℕ) (sums : List Float) : Type 0 where
  pub each : (k : ℕ) → k < many → live_at marks (first + k) ≡ true → raw_from w sums k ≡ raw (first + k)

-- The entries from `from` up to `to` have become what g makes of them; the others stay.
pub record Rescored (g : ℕ → Float → Float) (from to : ℕ) (all next : List Float) : Type 0 where
  pub same : length next ≡ length all
  pub inside : (i : ℕ) → from ≤ i → i < to → get_or next i nan ≡ g i (get_or all i nan)
  pub outside : (i : ℕ) → (from ≤ i → i < to → ⊥) → get_or next i nan ≡ get_or all i nan

-- What the fast way needs of its arguments: a width that there is with its centroids, a query of whole groups of 16 entries, and arrays that have n slots whole.
pub record Grouped (w centroids query size codes scales n : ℕ) : Type 0 where
  pub from : 4 ≤ w
  pub to : w ≤ 6
  pub table : centroids ≡ 2 ^ w
  pub groups : query % 16 ≡ 0
  pub most : query ≤ 4096
  pub block : size ≡ bytes_per_vector w query
  pub codes-there : n * size ≤ codes
  pub scales-there : n ≤ scales
