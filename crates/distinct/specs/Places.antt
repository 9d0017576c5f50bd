-- The places of the list that are the first of their keys, and what is written of them.
use Rattle.std.specs.Prelude.{◌≡◌, Bool, cond, ◌&&◌, List, [], map, ℕ, ◌+◌, length, get_or, set, eqb, Float}
use Rattle.std.specs.Float.{nan}
use Rattle.lists.specs.Lists.{tab, over, below}
use Rattle.lists.specs.Keep.{bit, keep}
use Rattle.index.specs.Step.{Hit, by_key}
use Rattle.previous.specs.Previous.{place_word, place_keyed}
use Rattle.distinct.specs.Distinct.{hit_at}

-- the place has a key, and no entry of a lower place with it
abbrev pub first_by : (keyed : List Bool) → (slots before : List ℕ) → (place : ℕ) → Bool
first_by keyed slots before p = place_keyed keyed slots p && eqb (get_or before p 0) 0

-- the keys and scores of such places among the first n
unfoldable pub firsts_list : (keys : List ℕ) → (keyed : List Bool) → (slots : List ℕ) → (scores : List Float) → (before : List ℕ) → (n : ℕ) → List (ℕ × Float)
firsts_list keys keyed slots scores before n = map (λ p. (place_word keys slots p, get_or scores p nan)) (keep (first_by keyed slots before) (below n))

module _ (keys : List ℕ) (keyed : List Bool) (slots : List ℕ) (scores : List Float) where
  abbrev pub place_hit : (place : ℕ) → Hit
  place_hit p = hit_at keys keyed (get_or slots p 0) (get_or scores p nan)

  -- the keyed list of the first n places
  abbrev pub keyed_to : (n : ℕ) → List (ℕ × Float)
  keyed_to n = by_key [] (tab place_hit n)

-- the keys and the scores of a keyed list over the first places of the results, and how many there are
pub record Listed (list : List (ℕ × Float)) (names₀ : List ℕ) (scores₀ : List Float) (many : ℕ) (names : List ℕ) (scores : List Float) : Type 0 where
  pub many-is : many ≡ length list
  pub names-are : names ≡ over (map (λ (e : ℕ × Float). e.0) list) names₀
  pub scores-are : scores ≡ over (map (λ (e : ℕ × Float). e.1) list) scores₀

-- one entry more in the results where the mark is set
pub record PutsHit (mark : Bool) (name : ℕ) (score : Float) (many : ℕ) (names₀ : List ℕ) (scores₀ : List Float)
    (r : ℕ) (names : List ℕ) (scores : List Float) : Type 0 where
  pub many-is : r ≡ many + bit mark
  pub names-are : names ≡ cond mark (set names₀ many name) names₀
  pub scores-are : scores ≡ cond mark (set scores₀ many score) scores₀
