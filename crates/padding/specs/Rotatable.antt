-- When a vector can be rotated.
use Rattle.std.specs.Prelude.{Bool, ◌&&◌, ℕ, leb}
use Rattle.padding.specs.Padded.{padded_dim}

-- working_dim is from 1 to 4,096, the vector has so many entries, and the rotated one has its places
unfoldable pub rotatable : (working entries places : ℕ) → Bool
rotatable working entries places = leb 1 working && (leb working 4096 && (leb working entries && leb (padded_dim working) places))
