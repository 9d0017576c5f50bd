-- "Tables rise strictly and each boundary lies between its neighbour centroids" (document 01, lloyd.rs), said of any pair of tables, and of the three pairs.
use Rattle.std.specs.Prelude.{◌≡◌, ℕ, ◌+◌, ◌<◌, Bool, true, ◌&&◌, List, [], ◌∷◌, eqb, length, drop, get_or, Float}
use Rattle.std.specs.Float.{nan}
use Rattle.std.specs.Float.Ieee.{lt}
use Rattle.lists.specs.Keep.{every}
use Rattle.lloyd.specs.Tables.{levels_of, centroids_of, boundaries_of}

-- ---- the rule as a test

-- each entry is below the one at the same place of the other list, as far as both go
unfoldable pub all_below : List Float → List Float → Bool
all_below [] ys = true
all_below (x ∷ xs) [] = true
all_below (x ∷ xs) (y ∷ ys) = lt x y && all_below xs ys

-- One centroid more than boundaries; the boundaries rise; the centroids rise; each boundary is above the centroid at its place, and below the next.
unfoldable pub conditions : List Float → List Float → List Bool
unfolding all_below
conditions boundaries centroids =
    eqb (length centroids) (length boundaries + 1)
    ∷ all_below boundaries (drop 1 boundaries)
    ∷ all_below centroids (drop 1 centroids)
    ∷ all_below centroids boundaries
    ∷ all_below boundaries (drop 1 centroids)
    ∷ []

unfoldable pub sound : List Float → List Float → Bool
unfolding conditions every
sound boundaries centroids = every (conditions boundaries centroids)

-- ---- the rule at each entry

-- each entry that has a next one is below it
abbrev pub Rises : List Float → Type 0
Rises table = (i : ℕ) → i + 1 < length table → lt (get_or table i nan) (get_or table (i + 1) nan) ≡ true

pub record SoundTables (boundaries centroids : List Float) : Type 0 where
  pub count : length centroids ≡ length boundaries + 1
  pub boundaries-rise : Rises boundaries
  pub centroids-rise : Rises centroids
  pub above-its-centroid : (i : ℕ) → i < length boundaries → lt (get_or centroids i nan) (get_or boundaries i nan) ≡ true
  pub below-the-next : (i : ℕ) → i < length boundaries → lt (get_or boundaries i nan) (get_or centroids (i + 1) nan) ≡ true

-- the rule of the six tables, at each entry
abbrev pub TablesRule : Type 0
TablesRule = (bits : ℕ) → 0 < levels_of bits → SoundTables (boundaries_of bits) (centroids_of bits)
