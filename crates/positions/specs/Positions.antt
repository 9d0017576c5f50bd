-- Positions. Document 01, 13: "a key's t slots not holding positions 0 to t-1 once each (unkeyed and dead hold 0)". For one slot that is the index's `positioned`.
use Rattle.std.specs.Prelude.{◌≡◌, Bool, true, false, ◌&&◌, Option, Some, None, List, [], ◌∷◌, ℕ, suc, ◌<◌, length, get_or, leb}
use Rattle.lists.specs.Lists.{tab}
use Rattle.index.specs.Fit.{Row, positioned}
use Rattle.lists.specs.Keep.{all, every}
use Rattle.positions.specs.Ordered.{Keys}

-- the arrays have the first n slots, and these are no more than an index may have (`Room`)
unfoldable pub has_room : Keys → ℕ → Bool
has_room a n = every (leb n 65536 ∷ leb n (length a.keys) ∷ leb n (length a.keyed) ∷ leb n (length a.held) ∷ [])

-- the row of a slot, with any live marks: `positioned` looks at none of them
abbrev pub row_of : Keys → (marks : ℕ → ℕ) → ℕ → Row
row_of a marks i = record { key = get_or a.keys i 0; keyed = get_or a.keyed i false; held = get_or a.held i 0; alive = marks i }

abbrev pub rows_of : Keys → (marks : ℕ → ℕ) → ℕ → List Row
rows_of a marks n = tab (row_of a marks) n

-- what the public call answers
unfoldable pub positions_fit : Keys → ℕ → Bool
positions_fit a n = has_room a n && all (positioned (rows_of a (λ i. 0) n)) (rows_of a (λ i. 0) n)

-- ---- what the program's one pass asks of each slot

-- Slot j follows the last keyed slot before it, if there is one: it has a greater key and position 0, or the same key and the next position.
pub data Follows (keys held : List ℕ) : (last : Option ℕ) (j : ℕ) → Type 0 where
  first : {j : ℕ} → get_or held j 0 ≡ 0 → Follows keys held None j
  greater : {i j : ℕ} → get_or keys i 0 < get_or keys j 0 → get_or held j 0 ≡ 0 → Follows keys held (Some i) j
  again : {i j : ℕ} → get_or keys i 0 ≡ get_or keys j 0 → get_or held j 0 ≡ suc (get_or held i 0) → Follows keys held (Some i) j

-- what one look at slot j asks where keys and positions are to rise
pub record Rising (a : Keys) (last : Option ℕ) (j : ℕ) : Type 0 where
  pub follows : get_or a.keyed j false ≡ true → Follows a.keys a.held last j
  pub loose : get_or a.keyed j false ≡ false → get_or a.held j 0 ≡ 0

-- none of the first n slots has a key
abbrev pub NoneKeyed : (keyed : List Bool) (n : ℕ) → Type 0
NoneKeyed keyed n = (i : ℕ) → i < n → get_or keyed i false ≡ false

-- the words of the first n slots rise
abbrev pub Climbing : (keys : List ℕ) (n : ℕ) → Type 0
Climbing keys n = (i j : ℕ) → i < j → j < n → get_or keys i 0 < get_or keys j 0
