-- The loop over the products of a block of any width: what holds at each turn.
use mathlib.Core.Path.{◌≡◌, refl, ap, ◌∙◌}
use mathlib.Core.List.{List}
use Prim.Native.Nat.{ℕ, ◌+◌, ◌%◌, ◌≤◌, ◌<◌}
use native.Mathlib.Omega.{arith}
use borrow.Author.Tests.{ne_eqb}
use lib.Dec.{lit<}
use lib.ListN.{length, take, get_or, set, replicate}
use lib.Seq.{take_all}
use lib.Ieee.{Float, nan, binary32, of_bits}
use Rattle.pattern.specs.Binary32.{◌⊕◌, sum_from}
use Rattle.score.specs.Lanes.{in_lane, lanes, bracketed}
use Rattle.score.specs.Score.{index_sums, raw_sums, block_products}
use Rattle.score.proofs.Lanes.{lanes_next}
use Rattle.score.proofs.Products.{length-products}

module _ (block : List ℕ) (query centroids : List Float) (w : ℕ) where
  abbrev terms : List Float
  terms = block_products w centroids block query

  -- the first i terms are in the lanes
  pub record InFour (acc : List Float) (i : ℕ) : Type 0 where
    pub within : i ≤ length query
    pub sums : acc ≡ lanes 4 (take i terms)

  pub four-start : InFour (replicate 4 (of_bits binary32 0)) 0
  unfolding lanes in_lane sum_from of_bits
  four-start = record { within = omega arith; sums = refl }

  pub four-again : (acc next : List Float) (term : Float) (i : ℕ) → InFour acc i → i < length query → term ≡ get_or terms i nan → next ≡ set acc (i % 4) (get_or acc (i % 4) nan ⊕ term)
      → InFour next (i + 1)
  four-again acc next term i h l t e =
      record { within = omega arith; sums = rw (e, h.sums, t) (lanes_next 4 terms i (lit< tt) (omega (arith, length-products w centroids block query))) }

  pub four-end : (acc : List Float) (i : ℕ) → InFour acc i → length query ≤ i → acc ≡ lanes 4 terms
  four-end acc i h l = h.sums ∙ ap (lanes 4) (take_all i terms (omega (arith, length-products w centroids block query)))

  -- folded, they are the raw score
  pub index-sums : (acc : List Float) (folded : Float) → (w ≡ 4 → ⊥) → acc ≡ lanes 4 terms → folded ≡ bracketed 2 acc → folded ≡ raw_sums w terms
  unfolding raw_sums index_sums
  index-sums acc folded n a f = rw (f, a, ne_eqb w 4 n)
