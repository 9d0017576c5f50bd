-- Ties in what the searches answer: document 02, Req 04. "two equal looking lines should then follow slot order": scores look equal where they are equal by
-- value, as -0 and +0 are. "Scores are still returned with their own sign." Laws of proofs/Ties.antt.
use Rattle.std.specs.Prelude.{◌≡◌, ℕ, ◌≤◌, T, Float}
use mathlib.Core.List.{List, map, Memᴰ}
use Rattle.std.proofs.Math.Option.{Option, none, some}
use Rattle.std.specs.Float.Ieee.{eq}
use Rattle.lists.specs.Keep.{keep, Each}
use Rattle.choose.specs.Falling.{RisesBy}
use Rattle.index.specs.declared.Index.{Index}
use Rattle.index.specs.Arrays.{Arrays}
use Rattle.index.specs.Step.{Op, key_of, score, search, search_keyed, search_cascade, Query, maybe_key, score_is, hits, key_hits, Hit, by_slot}
use Rattle.index.specs.Call.{call}

-- ---- lists of slots

-- the full search, or a cascade of r
abbrev pub slot_search : (r : Option ℕ) → Query → (k places : ℕ) → Op
slot_search none q k places = search q k places
slot_search (some r) q k places = search_cascade q k r places

-- the lines whose scores equal s by value
abbrev pub alike : (s : Float) → List (ℕ × Float) → List (ℕ × Float)
alike s lines = keep (λ l. eq l.1 s) lines

pub record InSlotOrder (x : Index) (a : Arrays) (q : Query) (lines : List (ℕ × Float)) : Type 0 where
  -- equal looking lines follow slot order; at s = +0 these are the lines of both zeros
  pub rise : (s : Float) → RisesBy (λ l. l.0) (alike s lines)
  -- each line has the score that its slot has by itself, to the bit: a zero has its own sign
  pub own : Each (λ l. (call x a (score l.0 q)).answer ≡ score_is l.1) lines

abbrev pub TiesBySlot : Type 0
TiesBySlot =
    (x : Index) (a : Arrays) (r : Option ℕ) (q : Query) (k places : ℕ) (lines : List (ℕ × Float)) →
    (call x a (slot_search r q k places)).answer ≡ hits lines → InSlotOrder x a q lines

-- ---- lists of keys

-- a line of a keyed list among the hits that the search by slot lists: of the key's hits that look equal it names the lowest slot's score
pub record NamesLowest (xs : List Hit) (line : ℕ × Float) : Type 0 where
  pub hit : Hit
  pub listed : Memᴰ hit xs
  pub of_key : hit.key ≡ some line.0
  pub scored : hit.score ≡ line.1
  pub lowest : Each (λ y. y.key ≡ some line.0 → T (eq y.score line.1) → hit.number ≤ y.number) xs

pub record ByLowest (x : Index) (a : Arrays) (q : Query) (k places : ℕ) (lines : List (ℕ × Float)) : Type 0 where
  pub found : List Hit
  -- these are the lines of the search by slot, with the keys that `key_of` answers
  pub searched : (call x a (search q k places)).answer ≡ hits (map by_slot found)
  pub keys : Each (λ y. (call x a (key_of y.number)).answer ≡ maybe_key y.key) found
  pub named : Each (NamesLowest found) lines

abbrev pub TiesByKey : Type 0
TiesByKey =
    (x : Index) (a : Arrays) (q : Query) (k places : ℕ) (lines : List (ℕ × Float)) →
    (call x a (search_keyed q k places)).answer ≡ key_hits lines → ByLowest x a q k places lines
