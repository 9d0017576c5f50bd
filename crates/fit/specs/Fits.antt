-- What 13's test means, clause by clause of document 01's sentence and of 02's change of it. That `fit` passes just where all of this holds is the law
-- `meaning` of proofs/Meaning.antt.
use Rattle.std.specs.Prelude.{◌≡◌, Bool, true, false, List, ℕ, ◌/◌, ◌≤◌, ◌<◌, length, get_or, eqb}
use Rattle.lists.specs.Lists.{tab}
use Rattle.lists.specs.Keep.{count}
use Rattle.encode.specs.declared.Header.{Header}
use Rattle.encode.specs.Header.{block_size}
use Rattle.index.specs.declared.Index.{Index}
use Rattle.index.specs.Arrays.{Arrays}
use Rattle.index.specs.State.{header_of, capacity}
use Rattle.positions.specs.Ordered.{Keys, Ordered}

-- "a record field outside its range, a residual record of width 5 or 6"
pub record Fields (x : Index) : Type 0 where
  pub dim : 1 ≤ x.dim
  pub dim-high : x.dim ≤ 4096
  pub working : 1 ≤ x.working_dim
  pub working-high : x.working_dim ≤ x.dim
  pub bits : 4 ≤ x.bits
  pub bits-high : x.bits ≤ 6
  pub residual : x.residual ≡ true → x.bits ≡ 4

-- "a key on a dead slot": each of the first n slots that has a key is live
abbrev pub KeyedLive : (keyed : List Bool) (alive : List ℕ) (n : ℕ) → Type 0
KeyedLive keyed alive n = (i : ℕ) → i < n → get_or keyed i false ≡ true → get_or alive i 0 ≡ 1

-- document 02, Req 02, "a bit set there": no mark is set at or above the first n slots
abbrev pub NoneFrom : (n : ℕ) (alive : List ℕ) → Type 0
NoneFrom n alive = (i : ℕ) → n ≤ i → get_or alive i 0 ≡ 0

-- how many of the first n slots are live
abbrev pub live_marks : List ℕ → ℕ → ℕ
live_marks alive n = count (λ m. eqb m 1) (tab (λ i. get_or alive i 0) n)

-- that of the slots in use, and "a wrong live count". `low` says that a mark is 0 or 1, which a bit is: it holds of all lent arrays (law `lent-low`).
pub record Marks (keyed : List Bool) (alive : List ℕ) (n live : ℕ) : Type 0 where
  pub low : (i : ℕ) → i < n → get_or alive i 0 ≤ 1
  pub clear : NoneFrom n alive
  pub slot : KeyedLive keyed alive n
  pub count : live ≡ live_marks alive n

abbrev pub keys_in : Arrays → Keys
keys_in a = record { keys = a.keys; keyed = a.keyed; held = a.held }

-- `room`: "an array too short (the index's, for the slots in use ..)", "over 65,536 slots in use". `positions`: "a key's t slots not holding positions 0 to t-1 once each".
pub record Fits (x : Index) (a : Arrays) : Type 0 where
  pub fields : Fields x
  pub room : x.n ≤ capacity (header_of x) a
  pub marks : Marks a.keyed a.alive x.n x.live
  pub positions : Ordered (keys_in a) x.n

-- what `room` says of each array
pub record Enough (h : Header) (a : Arrays) (n : ℕ) : Type 0 where
  pub few : n ≤ 65536
  pub codes : n ≤ length a.codes / block_size h
  pub scales : n ≤ length a.scales
  pub keys : n ≤ length a.keys
  pub keyed : n ≤ length a.keyed
  pub held : n ≤ length a.held
  pub alive : n ≤ length a.alive
  pub codes2 : h.residual ≡ true → n ≤ length a.codes2 / block_size h
  pub scales2 : h.residual ≡ true → n ≤ length a.scales2
  pub years : n ≤ length a.years
