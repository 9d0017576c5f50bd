-- How a rotated vector becomes codes and a scale. Document 01, store.rs: "Squares are summed in index order, every operation rounded once, and every square
-- root is the binary32 nearest to the exact one." Tables are arguments: any table will do.
use Rattle.std.specs.Prelude.{List, map, ℕ, Float}
use Rattle.std.specs.Float.{binary32}
use Rattle.std.specs.Float.Ieee.{to_bits}
use Rattle.pattern.specs.Binary32.{◌⊘◌, of_nat}
use Rattle.lloyd.specs.Quantizer.{quantized, decoded}
use Rattle.unit.specs.Unit.{norm}
use Rattle.codes.specs.Packing.{packed}
use Rattle.codes.specs.Stage.{Stage, stage}

pub record Table : Type 0 where
  pub boundaries : List Float
  pub centroids : List Float

abbrev pub table : (boundaries centroids : List Float) → Table
table boundaries centroids = record { boundaries = boundaries; centroids = centroids }

-- the code of each entry
unfoldable pub coded : (boundaries : List Float) → List Float → List ℕ
coded boundaries xs = map (quantized boundaries) xs

abbrev pub codes_of : Table → List Float → List ℕ
codes_of t xs = coded t.boundaries xs

-- the centroids of the entries
abbrev pub dequantized : Table → List Float → List Float
dequantized t xs = decoded t.centroids (codes_of t xs)

-- the scale as a binary32 pattern, and a code for each entry of the rotated vector
pub record Coding : Type 0 where
  pub scale : ℕ
  pub codes : List ℕ

-- ---- a plain index: the scale is 1 over the norm of the centroids

unfoldable pub plain_scale : (centroids : List Float) → ℕ
plain_scale d = to_bits binary32 (of_nat 1 ⊘ norm d)

unfoldable pub plain : Table → (rotated : List Float) → Coding
plain t xs = record { scale = plain_scale (dequantized t xs); codes = codes_of t xs }

-- a coding in a block of w bits a code, with these spare bits above
abbrev pub packed_stage : (w above : ℕ) → Coding → Stage
packed_stage w above g = stage g.scale (packed w g.codes above)
