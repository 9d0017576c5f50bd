-- The score of a slot, and the raw sum that it is scaled from, by what the width and the query's length ask for.
use mathlib.Core.Path.{◌≡◌}
use mathlib.Core.List.{List}
use mathlib.Core.Option.{Option, none, some}
use Prim.Native.Nat.{ℕ}
use borrow.Author.Tests.{ne_eqb}
use lib.Dec.{T}
use lib.ListN.{length}
use lib.Ieee.{Float, binary32, fits}
use lib.Ieee.Fits.{add-fits, mul-fits}
use Rattle.codes.specs.Stage.{Stage}
use Rattle.score.specs.Score.{lone_product, byte_sums, index_sums, raw_sums, of_block, raw_of_block, stage_score, slot_score}
use Rattle.score.proofs.Products.{length-products}

module _ (w : ℕ) (centroids : List Float) (block : List ℕ) (query : List Float) where
  pub raw_lone : w ≡ 4 → length query ≡ 1 → of_block lone_product 4 centroids block query ≡ raw_of_block w centroids block query
  unfolding raw_of_block of_block raw_sums
  raw_lone e one = rw (e, length-products 4 centroids block query, one)

  pub raw-four : w ≡ 4 → (length query ≡ 1 → ⊥) → of_block byte_sums 4 centroids block query ≡ raw_of_block w centroids block query
  unfolding raw_of_block of_block raw_sums
  raw-four e more = rw (e, length-products 4 centroids block query, ne_eqb (length query) 1 more)

  pub raw-wide : (w ≡ 4 → ⊥) → of_block index_sums w centroids block query ≡ raw_of_block w centroids block query
  unfolding raw_of_block of_block raw_sums
  raw-wide n = rw (ne_eqb w 4 n)

module _ (w : ℕ) (centroids query : List Float) (first : Stage) where
  -- a score is a binary32
  pub score-fits : (residual : Option Stage) → T (fits binary32 (slot_score w centroids query first residual))
  unfolding slot_score stage_score
  score-fits none = mul-fits binary32 _ _
  score-fits (some residual) = add-fits binary32 _ _
