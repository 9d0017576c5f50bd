-- Reading: document 01, "format.rs, byte form", taken apart block by block in the order in which `file_of` puts them together, with what the file's version has. What
-- follows the stated end counts for nothing here and is named `tail_in`.
use Rattle.std.specs.Prelude.{Bool, false, not, cond, ◌&&◌, ◌||◌, List, [], ◌∷◌, map, ℕ, ◌+◌, ◌*◌, length, take, drop, ltb, eqb}
use Rattle.std.proofs.Math.Option.{Option, none, some}
use Rattle.lists.specs.Lists.{tab}
use Rattle.lists.specs.Keep.{count, all}
use Rattle.digits.specs.Digits.{number}
use Rattle.half.specs.Half.{widened}
use Rattle.codes.specs.Slots.{block_at}
use Rattle.codes.specs.Stage.{Stage}
use Rattle.encode.specs.declared.Header.{Header}
use Rattle.encode.specs.Header.{block_size}
use Rattle.index.specs.declared.Form.{Form}
use Rattle.index.specs.Arrays.{Arrays, unmarked}
use Rattle.index.specs.State.{Mark, unkeyed, keyed, Slot, State, capacity, record_of, overlay}
use Rattle.index.specs.Fit.{between}
use Rattle.index.specs.Form.{form_of, stages_at, table_size, years_size, stage_size, end_at}
use Rattle.index.specs.File.{magic}
use Rattle.index.specs.Step.{first_of, when, rising}
use Rattle.index.specs.Make.{Begun, begun_unless}

-- ---- the head

-- the number that the first n bytes make, the lowest first: what `le` writes. A byte that is not there counts 0.
unfoldable pub little_endian : (n : ℕ) → (bytes : List ℕ) → ℕ
little_endian n bytes = number 256 (take n bytes)

module _ (file : List ℕ) where
  abbrev pub version_in : ℕ
  version_in = little_endian 2 (drop 4 file)

  abbrev pub form_in : Form
  form_in = form_of version_in

  abbrev pub dim_in : ℕ
  dim_in = little_endian 4 (drop 8 file)

  -- "live count 32"
  abbrev pub count_in : ℕ
  count_in = little_endian 4 (drop 20 file)

  -- the working_dim field, 0 where it is ignored
  abbrev pub working_field : ℕ
  working_field = cond form_in.working (little_endian 2 (drop 6 file)) 0

  -- "working_dim 16-bit (0 if it equals dim)"; a version without a width byte has 4 bits
  unfoldable pub header_in : Header
  header_in =
      record {
        dim = dim_in;
        working_dim = cond (eqb working_field 0) dim_in working_field;
        seed = little_endian 8 (drop 12 file);
        bits = cond form_in.width (little_endian 1 (drop 24 file)) 4;
        residual = form_in.second;
      }

  -- "Reading: 14, 15, 16, 17, 14 (width byte), 18"
  unfoldable pub head_fault : ℕ
  head_fault =
      first_of
      (when (ltb (length file) 24) 14
      ∷ when (not (eqb (little_endian 4 file) (little_endian 4 magic))) 15
      ∷ when (not form_in.known) 16
      ∷ when (ltb dim_in working_field) 17
      ∷ when (ltb (length file) (stages_at form_in)) 14
      ∷ when (not (between 4 6 header_in.bits)) 18
      ∷ [])

  -- 20 for dim and count alone
  abbrev pub over_limits : Bool
  over_limits = ltb 4096 dim_in || ltb 65536 count_in

-- ---- stages, with n slots and blocks of w bytes

-- of slot i, from bytes that begin with the scales: a half reads as its value, a NaN "with its fraction moved up 13 places"
unfoldable pub stage_from : (w n : ℕ) → (bytes : List ℕ) → (i : ℕ) → Stage
stage_from w n bytes i =
    record { scale = widened (little_endian 2 (drop (i * 2) bytes)); block = block_at w i (drop (n * 2) bytes) }

-- ---- key entries

pub record KeyEntry : Type 0 where
  pub slot : ℕ
  pub key : ℕ

-- "key entry count 32, then slot 32, key 64 each"
unfoldable pub entry_from : (table : List ℕ) → (i : ℕ) → KeyEntry
entry_from table i = record { slot = little_endian 4 (drop (4 + i * 12) table); key = little_endian 8 (drop (8 + i * 12) table) }

-- the slots of entries are below n, and none comes twice
abbrev pub well_keyed : (n : ℕ) → (slots : List ℕ) → Bool
well_keyed n ss = all (λ s. ltb s n && eqb (count (eqb s) ss) 1) ss

-- the key that the entries give to a slot
unfoldable pub key_from : List KeyEntry → (slot : ℕ) → Option ℕ
key_from [] i = none
key_from (e ∷ es) i = cond (eqb e.slot i) (some e.key) (key_from es i)

-- all slots that are read are live, and the key word of one without a key is 0. Positions follow when all are there.
abbrev pub mark_from : Option ℕ → Mark
mark_from none = unkeyed 0
mark_from (some k) = keyed k 0

-- ---- the file

module _ (file : List ℕ) where
  abbrev pub first_length : ℕ
  first_length = stage_size (block_size (header_in file)) (count_in file)

  -- a second stage is as long as the first
  abbrev pub second_length : ℕ
  second_length = cond (form_in file).second first_length 0

  -- what remains of the file after the head, after the first stage, after both
  abbrev pub stages_in : List ℕ
  stages_in = drop (stages_at (form_in file)) file

  abbrev pub second_in : List ℕ
  second_in = drop first_length stages_in

  abbrev pub table_in : List ℕ
  table_in = drop second_length second_in

  abbrev pub entry_count : ℕ
  entry_count = cond (form_in file).keys (little_endian 4 table_in) 0

  abbrev pub table_length : ℕ
  table_length = table_size (form_in file) entry_count

  -- what remains after the key table
  abbrev pub years_in : List ℕ
  years_in = drop table_length table_in

  abbrev pub years_length : ℕ
  years_length = years_size (form_in file) (count_in file)

  -- where the last block ends
  abbrev pub stated_end : ℕ
  stated_end = end_at (form_in file) (block_size (header_in file)) (count_in file) entry_count

  -- what follows: "Trailing bytes are ignored"
  abbrev pub tail_in : List ℕ
  tail_in = drop stated_end file

  unfoldable pub entries_in : List KeyEntry
  entries_in = tab (entry_from table_in) entry_count

  -- 02, Req 06: "Older files read as year 1 throughout."
  abbrev pub year_in : (i : ℕ) → ℕ
  year_in i = cond (form_in file).years (little_endian 2 (drop (i * 2) years_in)) 1

  unfoldable pub slot_in : (i : ℕ) → Slot
  slot_in i =
      let stage = stage_from (block_size (header_in file)) (count_in file) in
      record {
        mark = mark_from (key_from entries_in i);
        code = record { first = stage stages_in i; second = cond (form_in file).second (some (stage second_in i)) none };
        year = year_in i;
      }

  -- "`compact` and reading restore rising order"
  unfoldable pub slots_in : List Slot
  slots_in = rising (λ k. 0) (tab slot_in (count_in file))

  unfoldable pub state_in : State
  state_in = record { header = header_in file; cascade = false; slots = slots_in }

  -- 01: "14, 15, 16, 17, 14 (width byte), 18, 20, 14 (first block), 17 for dim 0, 14 (rest), 19". 20 is "file dim over 4,096, count over 65,536 or over the lent arrays".
  -- 02, Req 06: "A year block cut short is 14, with the rest."
  unfoldable pub read_refusal : Arrays → ℕ
  read_refusal a =
      first_of
      (head_fault file
      ∷ when (over_limits file) 20
      ∷ when (ltb (capacity (header_in file) a) (count_in file)) 20
      ∷ when (ltb (length stages_in) first_length) 14
      ∷ when (eqb (dim_in file) 0) 17
      ∷ when (ltb (length second_in) second_length || ltb (length table_in) table_length || ltb (length years_in) years_length) 14
      ∷ when (not (well_keyed (count_in file) (map (λ e. e.slot) entries_in))) 19
      ∷ [])

-- What is read stands over the first places, and all further places are kept, but for live marks, which are 0.
unfoldable pub read_into : Arrays → (file : List ℕ) → Begun
read_into a file = begun_unless (read_refusal file a) (record_of (state_in file)) a (overlay (unmarked a) (slots_in file))
