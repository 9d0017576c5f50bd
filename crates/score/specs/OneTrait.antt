-- Games with one trait, in the words of document 02, Req 05. Score.antt gives the same: law `ScoredByTrait`, of proofs/OneTrait.antt.
use Rattle.std.specs.Prelude.{◌≡◌, List, [], ◌∷◌, ℕ, ◌%◌, length, get_or, Float}
use Rattle.std.proofs.Math.Option.{Option, none, some}
use Rattle.std.specs.Float.{binary32}
use Rattle.std.specs.Float.Ieee.{of_bits}
use Rattle.pattern.specs.Binary32.{◌⊕◌, ◌⊗◌}
use Rattle.lloyd.specs.Quantizer.{centroid_at}
use Rattle.codes.specs.Stage.{Stage}
use Rattle.score.specs.Score.{slot_score}

-- "only the low four bits" of a slot's byte
abbrev pub low_four : (block : List ℕ) → ℕ
low_four block = get_or block 0 0 % 16

-- "the query entry .. times its centroid, times the scale"
abbrev pub trait_stage : (centroids : List Float) → (entry : Float) → Stage → Float
trait_stage centroids entry s = (entry ⊗ centroid_at centroids (low_four s.block)) ⊗ of_bits binary32 s.scale

-- "the residual stage likewise, and the two are added"
abbrev pub trait_score : (centroids : List Float) → (entry : Float) → (first : Stage) → (residual : Option Stage) → Float
trait_score centroids entry first none = trait_stage centroids entry first
trait_score centroids entry first (some residual) = trait_stage centroids entry first ⊕ trait_stage centroids entry residual

-- a slot's stages are a byte each
abbrev pub InBytes : (first : Stage) → (residual : Option Stage) → Type 0
InBytes first none = length first.block ≡ 1
InBytes first (some residual) = (length first.block ≡ 1) × (length residual.block ≡ 1)

-- "At padded size 1 and width 4": a query of one entry, and a centroid for each code of four bits. Any table will do.
abbrev pub ScoredByTrait : Type 0
ScoredByTrait =
    (centroids : List Float) (entry : Float) (first : Stage) (residual : Option Stage) → length centroids ≡ 16 → InBytes first residual →
    slot_score 4 centroids (entry ∷ []) first residual ≡ trait_score centroids entry first residual
