-- The reading of version 1 as it was before request 07 of document 02: document 01, "format.rs, byte form", with "1 (binary32 scales)", "1 and 257 ignore the working_dim field" and
-- "1 .., 257, 258, none with keys".
--
--   24 bytes: VECQ, version, (ignored), dim, seed, count │ n scales of 4 bytes │ n blocks │ (a tail counts for nothing)
--                                                        `old_stages`                     `old_end`
use Rattle.std.specs.Prelude.{false, not, List, [], ◌∷◌, ℕ, ◌+◌, ◌*◌, length, drop, ltb, eqb}
use Rattle.std.proofs.Math.Option.{none}
use Rattle.lists.specs.Lists.{tab}
use Rattle.codes.specs.Slots.{block_at}
use Rattle.codes.specs.Stage.{Stage}
use Rattle.encode.specs.declared.Header.{Header}
use Rattle.encode.specs.Header.{block_size}
use Rattle.index.specs.Arrays.{Arrays, unmarked}
use Rattle.index.specs.State.{unkeyed, Slot, new_slot, State, capacity, record_of, overlay}
use Rattle.index.specs.File.{magic}
use Rattle.index.specs.Step.{first_of, when}
use Rattle.index.specs.Make.{Begun, begun_unless}
use Rattle.index.specs.Read.{little_endian, version_in, dim_in, count_in, over_limits}

module _ (file : List ℕ) where
  unfoldable pub old_header : Header
  old_header = record { dim = dim_in file; working_dim = dim_in file; seed = little_endian 8 (drop 12 file); bits = 4; residual = false }

  abbrev pub old_block : ℕ
  old_block = block_size old_header

  abbrev pub old_stages : List ℕ
  old_stages = drop 24 file

  abbrev pub old_end : ℕ
  old_end = 24 + count_in file * 4 + count_in file * old_block

  -- "14, 15, 16 .., 20": any version but 1 is 16; 20 for dim and count alone
  unfoldable pub old_head_fault : ℕ
  old_head_fault =
      first_of
      (when (ltb (length file) 24) 14
      ∷ when (not (eqb (little_endian 4 file) (little_endian 4 magic))) 15
      ∷ when (not (eqb (version_in file) 1)) 16
      ∷ when (over_limits file) 20
      ∷ [])

  -- "14 (first block), 17 for dim 0": there is no rest
  unfoldable pub old_body_fault : ℕ
  old_body_fault = first_of (when (ltb (length file) old_end) 14 ∷ when (eqb (dim_in file) 0) 17 ∷ [])

  -- 20 is "file dim over 4,096, count over 65,536 or over the lent arrays"
  unfoldable pub old_refusal : Arrays → ℕ
  old_refusal a = first_of (old_head_fault ∷ when (ltb (capacity old_header a) (count_in file)) 20 ∷ old_body_fault ∷ [])

-- The value that is read, `of` being what becomes of each scale: the old reader kept it as it stood.
module _ (of : ℕ → ℕ) (file : List ℕ) where
  unfoldable pub old_stage : (i : ℕ) → Stage
  old_stage i =
      record {
        scale = of (little_endian 4 (drop (i * 4) (old_stages file)));
        block = block_at (old_block file) i (drop (count_in file * 4) (old_stages file));
      }

  -- all slots are live and without a key. 02, Req 06: "Older files read as year 1 throughout."
  abbrev pub old_slots : List Slot
  old_slots = tab (λ i. new_slot (unkeyed 0) (record { first = old_stage i; second = none }) 1) (count_in file)

  unfoldable pub old_state : State
  old_state = record { header = old_header file; cascade = false; slots = old_slots }

  abbrev pub old_read_into : Arrays → Begun
  old_read_into a = begun_unless (old_refusal file a) (record_of old_state) a (overlay (unmarked a) old_slots)
