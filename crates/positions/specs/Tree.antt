-- The tree in which the program finds the slot that holds a position of a key. It is an array of places, each with 0 or with a slot's number plus 1. The first places
-- are roots; after them each slot has two, its branches. A walk begins at the root of the key and position and takes the key's bits, the lowest first.
--
--   place     0 .. roots - 1      roots   roots + 1      roots + 2   roots + 3      ..
--             the roots           branches of slot 0     branches of slot 1         ..
use Rattle.std.specs.Prelude.{◌≡◌, Bool, true, false, List, ℕ, suc, ◌+◌, ◌-◌, ◌*◌, ◌/◌, ◌%◌, ◌≤◌, ◌<◌, length, get_or}
use Rattle.std.specs.Int.Bits.{bit_and}
use Rattle.positions.specs.Decides.{Shows}
use Rattle.positions.specs.Ordered.{Keys, New, Ordered}

-- The bits of a key, mixed so that keys near each other get different roots. The test is exact with any such function; this one makes it fast.
unfoldable pub mixed : ℕ → ℕ
mixed key = (key % 0x100000000 * 0x4F1BBCDD + key / 0x100000000 * 0x2F0B4C47) / 0x8000

-- The root of a key's position. Positions of one key below the number of roots, a power of two, have different roots.
unfoldable pub root_of : (roots key position : ℕ) → ℕ
root_of roots key position = bit_and (mixed key + position) (roots - 1)

-- the branch of a slot by the lowest bit
unfoldable pub branch : (roots slot bits : ℕ) → ℕ
branch roots slot bits = roots + 2 * slot + bits % 2

-- a walk from a place, by the bits of a key, comes to slot j
pub data Reaches (roots : ℕ) (tree : List ℕ) (j : ℕ) : (bits place : ℕ) → Type 0 where
  here : {bits place : ℕ} → get_or tree place 0 ≡ suc j → Reaches roots tree j bits place
  further : {bits place slot : ℕ} → get_or tree place 0 ≡ suc slot → Reaches roots tree j (bits / 2) (branch roots slot bits) → Reaches roots tree j bits place

-- the second tree has all that the first has
abbrev pub Keeps : List ℕ → List ℕ → Type 0
Keeps tree tree' = (place slot : ℕ) → get_or tree place 0 ≡ suc slot → get_or tree' place 0 ≡ suc slot

module _ (keys held : List ℕ) where
  -- the slot has the key and the position
  abbrev pub Same : (key position slot : ℕ) → Type 0
  Same key position slot = (get_or keys slot 0 ≡ key) × (get_or held slot 0 ≡ position)

  -- whether a walk goes on: at a slot that holds something else it does
  pub record Passes (tree : List ℕ) (key position place : ℕ) (answer : Bool) : Type 0 where
    pub yes : answer ≡ true → (slot : ℕ) × (get_or tree place 0 ≡ suc slot) × (Same key position slot → ⊥)
    pub no : answer ≡ false → (slot : ℕ) → get_or tree place 0 ≡ suc slot → Same key position slot

  module _ (roots : ℕ) where
    -- What stands at a place of a tree: a slot that the arrays have, its branches being later places of the tree. So a walk ends.
    pub record Node (size place slot : ℕ) : Type 0 where
      pub has_key : slot < length keys
      pub has-position : slot < length held
      pub later : place < roots + 2 * slot
      pub branches : roots + 2 * slot + 2 ≤ size

    -- an array of places that is such a tree
    pub record Tree (tree : List ℕ) : Type 0 where
      pub some : 0 < roots
      pub size : roots ≤ length tree
      pub node : (place slot : ℕ) → get_or tree place 0 ≡ suc slot → Node (length tree) place slot

    -- Where the walk of a key and position ends: at a slot that holds it (`found`), or at a free place. Then no slot that a walk comes to holds it (`missed`), and a slot
    -- that is put there will be reached (`free`). A tree of the first n slots has the place before the branches of slot n (`early`).
    pub record Ends (tree : List ℕ) (key position place : ℕ) : Type 0 where
      pub within : place < length tree
      pub early : (n : ℕ) → ((q slot : ℕ) → get_or tree q 0 ≡ suc slot → slot < n) → place < roots + 2 * n
      pub found : (slot : ℕ) → get_or tree place 0 ≡ suc slot → Same key position slot
      pub missed : get_or tree place 0 ≡ 0 → (j : ℕ) → Reaches roots tree j key (root_of roots key position) → Same key position j → ⊥
      pub free : (tree' : List ℕ) (j : ℕ) → Keeps tree tree' → get_or tree' place 0 ≡ suc j → Reaches roots tree' j key (root_of roots key position)

module _ (a : Keys) (roots : ℕ) where
  -- the keyed slots among the first n are in the tree, each at the end of its walk, and no others
  pub record Grown (n : ℕ) (tree : List ℕ) : Type 0 where
    pub sound : Tree a.keys a.held roots tree
    pub only : (place slot : ℕ) → get_or tree place 0 ≡ suc slot → (slot < n) × (get_or a.keyed slot false ≡ true)
    pub all : (j : ℕ) → j < n → get_or a.keyed j false ≡ true → Reaches roots tree j (get_or a.keys j 0) (root_of roots (get_or a.keys j 0) (get_or a.held j 0))

  -- what the answer says when slot j was to be entered: it is new and the tree has it, or else the positions are not in order
  abbrev pub Entered : (n j : ℕ) → (tree : List ℕ) → (answer : Bool) → Type 0
  Entered n j tree answer = Shows answer (Grown (suc j) tree × New a j) (Ordered a n)

  abbrev pub AllEntered : (n : ℕ) → (tree : List ℕ) → (answer : Bool) → Type 0
  AllEntered n tree answer = Shows answer (Grown n tree × ((j : ℕ) → j < n → New a j)) (Ordered a n)
