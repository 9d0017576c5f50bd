-- Scoring by a table of all pairs of codes. A pair is a number of two codes, the lower code its low digit: in a block of w bits a code, pair m is what `code_at` reads at 2 * w bits.
use Rattle.std.specs.Prelude.{◌≡◌, List, ℕ, ◌+◌, ◌*◌, ◌/◌, ◌%◌, ◌^◌, ◌<◌, length, get_or, Float}
use Rattle.std.specs.Float.{nan}
use Rattle.pattern.specs.Binary32.{◌⊕◌, ◌⊗◌}
use Rattle.lists.specs.Lists.{tab}
use Rattle.digits.specs.Digits.{digits}
use Rattle.codes.specs.Packing.{code_at}

-- the table has the two centroids of each pair x below `many` in the places 2 * x and 2 * x + 1
pub record Paired (w : ℕ) (centroids pairs : List Float) (many : ℕ) : Type 0 where
  pub low : (x : ℕ) → x < many → get_or pairs (x * 2) nan ≡ get_or centroids (x % 2 ^ w) nan
  pub high : (x : ℕ) → x < many → get_or pairs (x * 2 + 1) nan ≡ get_or centroids (x / 2 ^ w) nan

-- the first `many` entries of a query at even places, and those at odd ones
pub record Halved (query evens odds : List Float) (many : ℕ) : Type 0 where
  pub even : (i : ℕ) → i < many → get_or evens i nan ≡ get_or query (i * 2) nan
  pub odd : (i : ℕ) → i < many → get_or odds i nan ≡ get_or query (i * 2 + 1) nan

-- what byte i of a block of 4 bits a code adds: the byte is its pair of codes
unfoldable pub byte_term : (evens odds pairs : List Float) → (block : List ℕ) → ℕ → Float
byte_term evens odds pairs block i =
    get_or evens i nan ⊗ get_or pairs (get_or block i 0 * 2) nan ⊕ get_or odds i nan ⊗ get_or pairs (get_or block i 0 * 2 + 1) nan

-- each entry of the query times its centroid in the table
unfoldable pub pair_products : (w : ℕ) → (pairs query : List Float) → (block : List ℕ) → List Float
pair_products w pairs query block = tab (λ i. get_or query i nan ⊗ get_or pairs (code_at (w + w) block (i / 2) * 2 + i % 2) nan) (length query)

-- the same of entry i + k, where a word has the four pairs of the entries i to i + 7 as its digits to a base
unfoldable pub word_product : (base : ℕ) → (pairs query : List Float) → (word i k : ℕ) → Float
word_product base pairs query word i k = get_or query (i + k) nan ⊗ get_or pairs (get_or (digits base 4 word) (k / 2) 0 * 2 + k % 2) nan
