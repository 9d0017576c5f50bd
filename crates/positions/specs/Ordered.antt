-- Positions by slot number. Document 01, 13: "a key's t slots not holding positions 0 to t-1 once each (unkeyed and dead hold 0)" is said here as the program tests it: no
-- slot holds what an earlier one holds, and where a slot holds a position above 0, some slot of its key holds the one before. That the two are the same is the law
-- `rows-ordered` of proofs/Slots.antt.
use Rattle.std.specs.Prelude.{◌≡◌, Bool, true, false, List, ℕ, suc, ◌≤◌, ◌<◌, length, get_or}
use Rattle.std.specs.Borrow.{Bor}

-- the lent arrays of keys
pub record Keys : Type 0 where
  pub keys : List ℕ
  pub keyed : List Bool
  pub held : List ℕ

abbrev pub lent_keys : Bor (List ℕ) → Bor (List Bool) → Bor (List ℕ) → Keys
lent_keys a b c = record { keys = a.now; keyed = b.now; held = c.now }

module _ (a : Keys) where
  -- they have the first n slots, and these are no more than an index may have
  pub record Room (n : ℕ) : Type 0 where
    pub few : n ≤ 65536
    pub keys : n ≤ length a.keys
    pub keyed : n ≤ length a.keyed
    pub held : n ≤ length a.held

  -- slot i has the key k and holds the position p
  pub record Holds (k p i : ℕ) : Type 0 where
    pub keyed : get_or a.keyed i false ≡ true
    pub key : get_or a.keys i 0 ≡ k
    pub position : get_or a.held i 0 ≡ p

  -- no earlier slot holds what slot j holds, and without a key it holds 0
  pub record New (j : ℕ) : Type 0 where
    pub once : (i k p : ℕ) → i < j → Holds k p i → Holds k p j → ⊥
    pub loose : get_or a.keyed j false ≡ false → get_or a.held j 0 ≡ 0

  -- where slot j holds a position above 0, one of the first n slots holds the position before
  abbrev pub Preceded : (n j : ℕ) → Type 0
  Preceded n j = (k p : ℕ) → Holds k (suc p) j → (i : ℕ) × (i < n) × Holds k p i

  pub record Ordered (n : ℕ) : Type 0 where
    pub new : (j : ℕ) → j < n → New j
    pub next : (j : ℕ) → j < n → Preceded n j

-- every one of the first n slots holds position 0
abbrev pub AllFirst : (held : List ℕ) (n : ℕ) → Type 0
AllFirst held n = (i : ℕ) → i < n → get_or held i 0 ≡ 0
