-- Codes and scales of a residual index, from what the working functions ensure.
use mathlib.Core.Path.{◌≡◌, refl, ap, ap₂, ◌∙◌}
use mathlib.Core.Bool.{Bool}
use mathlib.Core.List.{List}
use Prim.Native.Nat.{ℕ}
use lib.IntN.{pos}
use lib.ListN.{length}
use lib.Ieee.{Float, binary32, of_bits, to_bits, of_int, round}
use Rattle.pattern.specs.Binary32.{◌⊕◌, ◌⊗◌, ◌⊘◌, of_nat, sum_squares, larger}
use Rattle.sqrt.specs.Root.{SquareRoot}
use Rattle.vectors.specs.Vectors.{divided}
use Rattle.unit.specs.Unit.{norm}
use Rattle.vectors.proofs.Filling.{length-divided}
use Rattle.codes.specs.Packing.{packed}
use Rattle.codes.specs.Stage.{stage}
use Rattle.encode.specs.Coding.{table, coded, dequantized, packed_stage}
use Rattle.codes.specs.Writing.{spare_after}
use Rattle.encode.specs.Calls.{stages, spares_after, stored_both}
use Rattle.encode.proofs.OneStage.{length-dequantized, one-is}
use Rattle.encode.specs.declared.Scales.{Scales}
use Rattle.encode.specs.Encode.{dot, floor, differences, rest, root_mean_square, scaled, joined_norm, first_scale, second_scale, residual}
use Rattle.encode.proofs.Filling.{length-differences}

-- ---- the scales

two_is : of_bits binary32 0x4000_0000 ≡ of_nat 2
unfolding of_bits of_int round
two_is = refl

pub root-mean-square-is : (xs : List Float) (s m r : Float) → s ≡ sum_squares xs → m ≡ larger (s ⊘ of_int binary32 (pos (length xs))) floor → SquareRoot m r → r ≡ root_mean_square xs
unfolding root_mean_square
root-mean-square-is xs s m r e l root = root.is ∙ rw (l, e)

pub scaled-is : (xs e e₁ : List Float) (r : Float) → e ≡ xs → r ≡ root_mean_square e → e₁ ≡ divided r e → (r ≡ root_mean_square xs) × (e₁ ≡ scaled xs)
unfolding scaled
scaled-is xs e e₁ r a m d = (rw a at m, d ∙ rw (m, a))

pub length-scaled : (xs ys : List Float) → length ys ≡ length xs → length (scaled (differences xs ys)) ≡ length xs
unfolding scaled
length-scaled xs ys e = length-divided (root_mean_square (differences xs ys)) (differences xs ys) ∙ length-differences xs ys e

pub joined-norm-is : (d e : List Float) (rms s x t m r : Float) → s ≡ sum_squares d → x ≡ dot d e → t ≡ sum_squares e
    → m ≡ larger (s ⊕ of_bits binary32 0x4000_0000 ⊗ rms ⊗ x ⊕ rms ⊗ rms ⊗ t) floor → SquareRoot m r → r ≡ joined_norm rms d e
unfolding joined_norm
joined-norm-is d e rms s x t m r a g h l root = root.is ∙ rw (l, a, g, h, two_is)

module _ (d e : List Float) (rms n j : Float) (norms : n ≡ norm d) (joins : j ≡ joined_norm rms d e) where
  pub first-scale-is : (r : ℕ) → r ≡ to_bits binary32 (of_bits binary32 0x3F80_0000 ⊘ n ⊗ n ⊘ j) → r ≡ first_scale rms d e
  unfolding first_scale
  first-scale-is r p = p ∙ rw (norms, joins, one-is)

  pub second-scale-is : (r : ℕ) → r ≡ to_bits binary32 (rms ⊘ j) → r ≡ second_scale rms d e
  unfolding second_scale
  second-scale-is r p = p ∙ rw joins

-- ---- both stages

module _ (b c xs : List Float) (w : ℕ) (fresh : Bool) (block block2 : List ℕ) where
  -- d holds the centroids of the first codes, e₁ what is coded again, and e the centroids of the second codes
  pub residual-is : (d e₁ e : List Float) (rms : Float) (s : Scales) (next next2 : List ℕ)
      → d ≡ dequantized (table b c) xs → next ≡ packed w (coded b xs) (spare_after fresh w (length xs) block)
      → rms ≡ root_mean_square (differences xs d) → e₁ ≡ scaled (differences xs d)
      → e ≡ dequantized (table b c) e₁ → next2 ≡ packed w (coded b e₁) (spare_after fresh w (length e₁) block2)
      → s.scale ≡ first_scale rms d e → s.scale2 ≡ second_scale rms d e
      → stages s next next2 ≡ stored_both w (spares_after fresh w (length xs) block block2) (residual (table b c) xs)
  unfolding residual rest
  residual-is d e₁ e rms s next next2 values packs m scales values2 packs2 f g =
      let l = ap length scales ∙ length-scaled xs d (ap length values ∙ length-dequantized (table b c) xs) in
      let first : stage s.scale next ≡ packed_stage w (spare_after fresh w (length xs) block) (residual (table b c) xs).first = ap₂ stage (f ∙ rw (m, values2, scales, values)) packs in
      let second : stage s.scale2 next2 ≡ packed_stage w (spare_after fresh w (length xs) block2) (residual (table b c) xs).second = ap₂ stage (g ∙ rw (m, values2, scales, values)) (packs2 ∙ rw (l, scales, values)) in
      λ i. record { first = first i; second = second i }
