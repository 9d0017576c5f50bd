-- What a slot stores of a vector: a stage, and a second one where the index is residual.
use Rattle.std.specs.Prelude.{Bool, cond, List, ℕ, Float}
use Rattle.std.proofs.Math.Option.{Option, none, some}
use Rattle.unit.specs.Brought.{Item}
use Rattle.vectors.specs.Vectors.{vector_fault}
use Rattle.unit.specs.Unit.{rotated_by}
use Rattle.codes.specs.Packing.{spare}
use Rattle.codes.specs.Stage.{Stage}
use Rattle.encode.specs.Coding.{Table, plain, packed_stage}
use Rattle.encode.specs.Header.{Header, padded}
use Rattle.encode.specs.Encode.{residual}

pub record Code : Type 0 where
  pub first : Stage
  pub second : Option Stage

-- the code that a slot's places hold: those of the second stage count only where the index is residual
abbrev pub code_in : (residual : Bool) → (first second : Stage) → Code
code_in residual first second = record { first = first; second = cond residual (some second) none }

-- 1, 2 or 3 where a vector or a query is turned down, else 0
abbrev pub fault : Header → List Float → ℕ
fault h v = vector_fault h.dim h.working_dim v

abbrev pub rotated_of : Header → List Float → List Float
rotated_of h v = rotated_by h.working_dim h.seed v

-- the spare bits above the codes, in the block of each stage
pub record Spare : Type 0 where
  pub first : ℕ
  pub second : ℕ

-- 01, store.rs: "Spare bits are 0 after an append; an overwrite keeps them."
abbrev pub no_spare : Spare
no_spare = record { first = 0; second = 0 }

abbrev pub spare_in : Header → Stage → ℕ
spare_in h g = spare h.bits (padded h) g.block

abbrev pub spare_of : Header → Code → Spare
spare_of h c = record { first = spare_in h c.first; second = elim c.second [ none ↦ 0 | some g ↦ spare_in h g ] }

unfoldable pub encoded_by_table : Table → Header → (above : Spare) → Item → Code
encoded_by_table t h above v =
    let xs = rotated_of h v.vector in
    let both = residual t xs in
    cond h.residual
    (record { first = packed_stage h.bits above.first both.first; second = some (packed_stage h.bits above.second both.second) })
    (record { first = packed_stage h.bits above.first (plain t xs); second = none })
