-- What a compaction does to each lent array: the entries of the slots that stay stand over the first places, and later places keep their contents. That all of it
-- together is the index's `compacted` is the law `compacted-arrays` of proofs/Arrays.antt.
use Rattle.std.specs.Prelude.{◌&&◌, List, ℕ, ◌≤◌, ◌<◌, length, get_or, leb}
use Rattle.lists.specs.Lists.{tab, over, joined, below}
use Rattle.lists.specs.Keep.{keep}
use Rattle.marks.specs.Live.{live_at}
use Rattle.codes.specs.Slots.{block_at}
use Rattle.index.specs.declared.Index.{Index}
use Rattle.index.specs.State.{with_counts}

-- the numbers of the live slots among the first n
unfoldable pub live_slots : (alive : List ℕ) → (n : ℕ) → List ℕ
live_slots alive n = keep (live_at alive) (below n)

module _ (slots : List ℕ) (n : ℕ) where
  -- at place j, for each j below n, the entry that was at the j-th of the slots
  unfoldable pub gathered : {A : Type 0} → (d : A) → List A → List A
  gathered d xs = over (tab (λ j. get_or xs (get_or slots j 0) d) n) xs

  -- the same of blocks: bytes move whole
  unfoldable pub gathered_blocks : (size : ℕ) → List ℕ → List ℕ
  gathered_blocks size xs = over (joined (tab (λ j. block_at size (get_or slots j 0) xs) n)) xs

  -- no entry moves up, and each is one of the first `room`
  pub record Downward (room : ℕ) : Type 0 where
    pub many : n ≤ length slots
    pub down : (j : ℕ) → j < n → j ≤ get_or slots j 0
    pub below : (j : ℕ) → j < n → get_or slots j 0 < room

-- 01: the slots in use are those kept, all live; the cascade ends where a dead slot was met.
unfoldable pub with_kept : Index → (kept : ℕ) → Index
with_kept x kept = with_counts x kept kept (x.cascade && leb x.n kept)
