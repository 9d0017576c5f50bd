-- How a rotated vector becomes the codes and scales of a residual index: what the first codes leave, over its root mean square, is coded again.
use Rattle.std.specs.Prelude.{List, ℕ, ◌^◌, false, length, Float}
use Rattle.std.specs.Float.{binary32}
use Rattle.std.specs.Float.Ieee.{round, to_bits}
use Rattle.lists.specs.Lists.{zip_with}
use Rattle.pattern.specs.Binary32.{◌⊕◌, ◌⊖◌, ◌⊗◌, ◌⊘◌, of_nat, sum_of, sum_squares, larger}
use Rattle.sqrt.specs.Root.{square_root}
use Rattle.vectors.specs.Vectors.{divided}
use Rattle.unit.specs.Unit.{norm}
use Rattle.encode.specs.Coding.{Table, codes_of, dequantized, Coding}

-- the binary32 nearest to 1e-12
unfoldable pub floor : Float
floor = round binary32 false 1 (10 ^ 12)

unfoldable pub differences : List Float → List Float → List Float
differences xs ys = zip_with ◌⊖◌ xs ys

unfoldable pub dot : List Float → List Float → Float
dot xs ys = sum_of (zip_with ◌⊗◌ xs ys)

-- what the first codes leave: each entry less its centroid
unfoldable pub rest : Table → List Float → List Float
rest t xs = differences xs (dequantized t xs)

unfoldable pub root_mean_square : List Float → Float
root_mean_square rs = square_root (larger (sum_squares rs ⊘ of_nat (length rs)) floor)

-- the entries over their root mean square
unfoldable pub scaled : List Float → List Float
scaled rs = divided (root_mean_square rs) rs

-- The norm of d + rms * e, where d and e are the centroids of the first and of the second codes: its square is |d|² + 2 rms (d · e) + rms² |e|²,
-- in the Rust's brackets.
unfoldable pub joined_norm : (rms : Float) (d e : List Float) → Float
joined_norm rms d e = square_root (larger (sum_squares d ⊕ of_nat 2 ⊗ rms ⊗ dot d e ⊕ rms ⊗ rms ⊗ sum_squares e) floor)

unfoldable pub first_scale : (rms : Float) (d e : List Float) → ℕ
first_scale rms d e = to_bits binary32 (of_nat 1 ⊘ norm d ⊗ norm d ⊘ joined_norm rms d e)

unfoldable pub second_scale : (rms : Float) (d e : List Float) → ℕ
second_scale rms d e = to_bits binary32 (rms ⊘ joined_norm rms d e)

pub record Codings : Type 0 where
  pub first : Coding
  pub second : Coding

unfoldable pub residual : Table → (rotated : List Float) → Codings
residual t xs =
    let rs = rest t xs in
    let rms = root_mean_square rs in
    let d = dequantized t xs in
    let e = dequantized t (scaled rs) in
    record {
      first = record { scale = first_scale rms d e; codes = codes_of t xs };
      second = record { scale = second_scale rms d e; codes = codes_of t (scaled rs) };
    }
