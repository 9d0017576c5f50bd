-- The score of a slot of one code of 4 bits: proof of specs/OneTrait.antt.
use mathlib.Core.Path.{◌≡◌, refl, ap, ap₂}
use mathlib.Core.List.{List, [], ◌∷◌}
use mathlib.Core.Option.{none, some}
use Prim.Native.Nat.{ℕ}
use native.Mathlib.Omega.{arith}
use lib.ListN.{length}
use lib.Ieee.{Float}
use Rattle.pattern.specs.Binary32.{◌⊕◌}
use Rattle.lloyd.specs.Quantizer.{decoded}
use Rattle.codes.specs.Packing.{bytes_per_vector, unpacked}
use Rattle.codes.specs.Stage.{Stage}
use Rattle.score.specs.Score.{products, lone_product, raw_sums, block_products, fitting, of_block, raw_of_block, stage_score, slot_score}
use Rattle.score.specs.OneTrait.{low_four, trait_stage, ScoredByTrait}

-- ---- a block of one code

-- the code is in the low four bits of the first byte
pub lone-code : (block : List ℕ) → unpacked 4 1 block ≡ low_four block ∷ []
unfolding unpacked
lone-code [] = refl
lone-code (b ∷ bs) = ap (λ (n : ℕ). n ∷ []) (omega arith)

module _ (centroids : List Float) (entry : Float) (g : Stage) where
  one-stage : length centroids ≡ 16 → length g.block ≡ 1 → stage_score 4 centroids (entry ∷ []) g ≡ trait_stage centroids entry g
  unfolding stage_score raw_of_block of_block raw_sums lone_product fitting bytes_per_vector block_products products decoded
  one-stage e one = rw (e, one, lone-code g.block)

pub scored-by-trait : ScoredByTrait
unfolding slot_score
scored-by-trait centroids entry first none e one = one-stage centroids entry first e one
scored-by-trait centroids entry first (some residual) e one = ap₂ ◌⊕◌ (one-stage centroids entry first e one.0) (one-stage centroids entry residual e one.1)
