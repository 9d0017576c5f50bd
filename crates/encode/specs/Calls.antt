-- What the calls of this crate give and leave in the lent arrays, also where the sizes don't fit: there nothing is written, and the result is 0.
use Rattle.std.specs.Prelude.{◌≡◌, Bool, not, cond, ◌&&◌, ◌||◌, List, ℕ, ◌^◌, ◌<◌, ◌≤◌, eqb, leb, ltb, length}
use Rattle.std.proofs.Math.Option.{none, some}
use Rattle.unit.specs.Brought.{Item}
use Rattle.padding.specs.Rotatable.{rotatable}
use Rattle.codes.specs.Packing.{bytes_per_vector}
use Rattle.codes.specs.Writing.{is_width, Width, spare_after}
use Rattle.codes.specs.Stage.{Stage, stage}
use Rattle.encode.specs.Coding.{Table, packed_stage}
use Rattle.encode.specs.declared.Scales.{Scales}
use Rattle.encode.specs.Header.{Header, padded}
use Rattle.encode.specs.Encode.{Codings}
use Rattle.encode.specs.Coded.{Code, Spare, encoded_by_table}

-- ---- codes of one stage

-- The width is one of 1 to 8 bits, the table has no code past the width, there are at most 4,096 codes, and the block has just their bytes.
unfoldable pub codable : (w boundaries codes block : ℕ) → Bool
codable w boundaries codes block = is_width w && (ltb boundaries (2 ^ w) && (leb codes 4096 && eqb block (bytes_per_vector w codes)))

-- The same as facts.
pub record Fits (w boundaries codes block : ℕ) : Type 0 where
  pub width : Width w
  pub table : boundaries < 2 ^ w
  pub most : codes ≤ 4096
  pub size : block ≡ bytes_per_vector w codes

-- a block that is left as it is
abbrev pub untouched : (block : List ℕ) → Stage
untouched block = stage 0 block

-- ---- codes of a residual index

-- the scales and the blocks of both stages
pub record Stages : Type 0 where
  pub first : Stage
  pub second : Stage

abbrev pub stages : Scales → (block block2 : List ℕ) → Stages
stages s block block2 = record { first = stage s.scale block; second = stage s.scale2 block2 }

abbrev pub untouched_both : (block block2 : List ℕ) → Stages
untouched_both block block2 = record { first = untouched block; second = untouched block2 }

abbrev pub spares_after : (fresh : Bool) → (w p : ℕ) → (block block2 : List ℕ) → Spare
spares_after fresh w p block block2 = record { first = spare_after fresh w p block; second = spare_after fresh w p block2 }

abbrev pub stored_both : (w : ℕ) → (above : Spare) → Codings → Stages
stored_both w above g = record { first = packed_stage w above.first g.first; second = packed_stage w above.second g.second }

-- ---- a whole vector

-- The vector can be rotated, the block fits, and where the index is residual the second block has as many bytes.
unfoldable pub encodable : Header → (boundaries entries block block2 : ℕ) → Bool
encodable h boundaries entries block block2 =
    rotatable h.working_dim entries 4096 && (codable h.bits boundaries (padded h) block && (not h.residual || eqb block2 block))

-- a code in a slot's places: where it has no second stage, the second block is left as it is
abbrev pub placed : Code → (block2 : List ℕ) → Stages
placed c block2 = record { first = c.first; second = elim c.second [ none ↦ untouched block2 | some g ↦ g ] }

unfoldable pub encoded_into : Table → Header → (fresh : Bool) → Item → (block block2 : List ℕ) → Stages
encoded_into t h fresh v block block2 =
    cond (encodable h (length t.boundaries) (length v.vector) (length block) (length block2))
    (placed (encoded_by_table t h (spares_after fresh h.bits (padded h) block block2) v) block2)
    (untouched_both block block2)
