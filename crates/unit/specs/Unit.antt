-- A vector's norm and its rotation, and how a query is made ready. Document 01, store.rs: "Encoding reads the first working_dim entries only; later ones may
-- be NaN. Squares are summed in index order, every operation rounded once, and every square root is the binary32 nearest to the exact one."
use Rattle.std.specs.Prelude.{List, ℕ, take, Float}
use Rattle.pattern.specs.Binary32.{sum_squares}
use Rattle.sqrt.specs.Root.{square_root}
use Rattle.padding.specs.Padded.{padded_dim}
use Rattle.rhdh.specs.Rotation.{rotated}
use Rattle.vectors.specs.Vectors.{divided}

-- ---- the vector

-- the root of the sum of the squares
unfoldable pub norm : List Float → Float
norm xs = square_root (sum_squares xs)

-- the entries over their norm
unfoldable pub unit : List Float → List Float
unit xs = divided (norm xs) xs

-- the first working_dim entries, over their norm, padded and rotated
unfoldable pub rotated_by : (working seed : ℕ) → List Float → List Float
rotated_by working seed v = rotated (padded_dim working) seed (unit (take working v))

-- ---- the query: `prepare_query` divides its rotated entries by their norm, `rnorm`

abbrev pub rnorm : (rotated : List Float) → Float
rnorm xs = norm xs

abbrev pub prepared : (rotated : List Float) → List Float
prepared xs = unit xs
