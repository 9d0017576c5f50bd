-- The two loops over the bytes of a block of 4 bits a code: what holds at each turn.
use mathlib.Core.Path.{◌≡◌, refl, sym, ap, subst, ◌∙◌}
use mathlib.Core.List.{List, [], ◌∷◌}
use Prim.Native.Nat.{ℕ, ◌+◌, ◌*◌, ◌/◌, ◌≤◌, ◌<◌}
use native.Mathlib.Numerals.{add-one}
use native.Mathlib.Omega.{arith}
use borrow.Author.Tests.{ne_eqb}
use lib.ListN.{length, take, drop, get_or, replicate}
use lib.Seq.{take-suc, take_all, length-take-le, drop-append-le, slice_empty}
use lib.Ieee.{Float, nan, binary32, of_bits}
use Rattle.pattern.specs.Binary32.{◌⊕◌, +0, sum_from, sum_of}
use Rattle.pattern.proofs.Sums.{sum-snoc}
use Rattle.lists.specs.Lists.{tab}
use Rattle.score.specs.Lanes.{in_lane, lanes, bracketed}
use Rattle.score.specs.Score.{lone_product, byte_sums, raw_sums, block_products, byte_terms}
use Rattle.score.proofs.Lanes.{InLanes, lanes-again}
use Rattle.score.proofs.Products.{length-products, length-terms}

module _ (block : List ℕ) (query centroids : List Float) where
  abbrev terms : List Float
  terms = byte_terms centroids block query

  pub eight-start : InLanes 8 terms (replicate 8 (of_bits binary32 0)) 0
  unfolding lanes in_lane sum_from of_bits
  eight-start = record { blocks = refl; within = omega arith; sums = refl }

  pub eight-again : (acc next : List Float) (group : ℕ) → InLanes 8 terms acc (group * 8) → group < length query / 2 / 8
      → next ≡ tab (λ j. get_or acc j nan ⊕ get_or terms (group * 8 + j) nan) 8 → InLanes 8 terms next ((group + 1) * 8)
  eight-again acc next group h l e =
      subst (λ (n : ℕ). InLanes 8 terms next n) {x = group * 8 + 8} {y = (group + 1) * 8} (omega arith)
      (lanes-again 8 terms acc (group * 8) h next (omega (arith, length-terms centroids block query)) e)

  -- those after the last eight, up to i, are in the tail
  pub record InTail (tail : Float) (i : ℕ) : Type 0 where
    pub from : length query / 2 / 8 * 8 ≤ i
    pub within : i ≤ length query / 2
    pub sums : tail ≡ sum_of (drop (length query / 2 / 8 * 8) (take i terms))

  pub tail-start : InTail (of_bits binary32 0) (length query / 2 / 8 * 8)
  unfolding sum_from of_bits
  tail-start = record { from = omega arith; within = omega arith; sums = rw (slice_empty (length query / 2 / 8 * 8) terms) }

  pub tail-again : (tail term : Float) (i : ℕ) → InTail tail i → i < length query / 2 → term ≡ get_or terms i nan → InTail (tail ⊕ term) (i + 1)
  tail-again tail term i h l e =
      let n = length-terms centroids block query in
      record {
        from = omega arith;
        within = omega arith;
        sums = rw (h.sums, e, add-one i, take-suc terms i nan (omega arith), drop-append-le (length query / 2 / 8 * 8) (take i terms) (get_or terms i nan ∷ []) (rw (length-take-le i terms (omega arith)) h.from))
            (sym (sum-snoc +0 (drop (length query / 2 / 8 * 8) (take i terms)) (get_or terms i nan)));
      }

  pub tail-end : (tail : Float) (i : ℕ) → InTail tail i → length query / 2 ≤ i → tail ≡ sum_of (drop (length query / 2 / 8 * 8) terms)
  tail-end tail i h l = h.sums ∙ ap (λ (ts : List Float). sum_of (drop (length query / 2 / 8 * 8) ts)) (take_all i terms (omega (arith, length-terms centroids block query)))

  -- lanes and tail together are the raw score, and a single product is
  pub byte-sums : (w : ℕ) (acc : List Float) (folded tail : Float) → w ≡ 4 → (length query ≡ 1 → ⊥) → acc ≡ lanes 8 (take (length query / 2 / 8 * 8) terms) → folded ≡ bracketed 3 acc
      → tail ≡ sum_of (drop (length query / 2 / 8 * 8) terms) → folded ⊕ tail ≡ raw_sums w (block_products w centroids block query)
  unfolding raw_sums byte_sums
  byte-sums w acc folded tail e more a f t = rw (f, a, t, e, length-products 4 centroids block query, ne_eqb (length query) 1 more, length-terms centroids block query)

  pub lone-product : (w : ℕ) (x : Float) → w ≡ 4 → length query ≡ 1 → x ≡ get_or (block_products w centroids block query) 0 nan → x ≡ raw_sums w (block_products w centroids block query)
  unfolding raw_sums lone_product
  lone-product w x e one f = rw (f, e, length-products 4 centroids block query, one)
