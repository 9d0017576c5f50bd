-- The calls of a history. Document 01, "Histories": "adding, overwriting, relabelling, whole-key removal, compaction, scoring, search, keyed search, key questions and writing".
-- A width call and a single removal are none of them: with either the claim is false. Nor is the cascade.
use Rattle.std.specs.Prelude.{ℕ}
use Rattle.index.specs.Step as Step
use Rattle.index.specs.Step.{Op, Item, Query}

-- A call about a slot names an arrival: "a read index's slots arrive as 0, 1, 2 in slot order; a new index has none; each accepted append is the next, an overwrite none".
pub data HistoryOp : Type 0 where
  add : Item → (year : ℕ) → HistoryOp
  add_keyed : (key : ℕ) → Item → (year present : ℕ) → HistoryOp
  add_multi : (key : ℕ) → Item → (year : ℕ) → HistoryOp
  relabel : (old new : ℕ) → HistoryOp
  remove : (key present : ℕ) → HistoryOp
  compact : HistoryOp
  score : (arrival : ℕ) → Query → HistoryOp
  search search_keyed : Query → (k places : ℕ) → HistoryOp
  key_of : (arrival : ℕ) → HistoryOp
  contains : (key : ℕ) → HistoryOp
  slot_of : (key position : ℕ) → HistoryOp
  file_length : HistoryOp
  write : (places : ℕ) → HistoryOp

-- "A call that names an arrival is handed the slot's number at that moment", which is what `number` says of each arrival.
abbrev pub op_at : (number : ℕ → ℕ) → HistoryOp → Op
op_at number (add v y) = Step.add v y
op_at number (add_keyed j v y present) = Step.add_keyed j v y present
op_at number (add_multi j v y) = Step.add_multi j v y
op_at number (relabel j k) = Step.relabel j k
op_at number (remove j present) = Step.remove j present
op_at number compact = Step.compact
op_at number (score i q) = Step.score (number i) q
op_at number (search q k places) = Step.search q k places
op_at number (search_keyed q k places) = Step.search_keyed q k places
op_at number (key_of i) = Step.key_of (number i)
op_at number (contains j) = Step.contains j
op_at number (slot_of j i) = Step.slot_of j i
op_at number file_length = Step.file_length
op_at number (write places) = Step.write places
