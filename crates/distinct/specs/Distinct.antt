-- A keyed list (document 01, store.rs: "`search_keyed` drops unkeyed hits and repeats").
use Rattle.std.specs.Prelude.{Bool, cond, ◌&&◌, List, [], ℕ, min, length, leb, Float}
use Rattle.lists.specs.Lists.{zip_with}
use Rattle.slot_keys.specs.Has.{key_at}
use Rattle.index.specs.Step.{Hit, by_key}

-- a listed slot with the key that the arrays have for it
abbrev pub hit_at : (keys : List ℕ) → (keyed : List Bool) → ℕ → Float → Hit
hit_at keys keyed i x = record { number = i; key = key_at keys keyed i; score = x }

-- the keyed list of listed slots and their scores
unfoldable pub keyed_list : (keys : List ℕ) → (keyed : List Bool) → (slots : List ℕ) → (scores : List Float) → List (ℕ × Float)
keyed_list keys keyed slots scores = by_key [] (zip_with (hit_at keys keyed) slots scores)

-- what is written: nothing where more than 65,536 slots are listed, or there are fewer places than slots and scores
unfoldable pub keyed_shown : (keys : List ℕ) → (keyed : List Bool) → (slots : List ℕ) → (scores : List Float) → (places : ℕ) → List (ℕ × Float)
keyed_shown keys keyed slots scores places =
    let n = min (length slots) (length scores) in
    cond (leb n 65536 && leb n places) (keyed_list keys keyed slots scores) []
