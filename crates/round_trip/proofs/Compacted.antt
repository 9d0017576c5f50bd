-- Reading what was written leaves what a compaction leaves, with scales rounded to halves.
use mathlib.Core.Path.{◌≡◌, refl, ◌∙◌}
use mathlib.Core.Bool.{false}
use mathlib.Core.List.{List, [], ◌∷◌, map}
use Prim.Native.Nat.{ℕ, suc}
use Rattle.lists.specs.Keep.{keep}
use Rattle.index.specs.State.{Mark, dead, unkeyed, keyed, Slot, State, live, with_mark}
use Rattle.index.specs.Step.{live_from, entry_of, file_bytes, one_more, rising, compacted, with_slots}
use Rattle.index.specs.Read.{state_in}
use Rattle.round_trip.specs.Back.{read_back, tidied, saved, Writable}
use Rattle.round_trip.proofs.Back.{value-back}

tidied-rising : (seen : ℕ → ℕ) (i : ℕ) (ss : List Slot) → rising seen (map read_back (map entry_of (live_from i ss))) ≡ map tidied (rising seen (keep live ss))
unfolding rising live_from
tidied-rising seen i [] = refl
tidied-rising seen i (s ∷ ss) = go s.mark (λ next. tidied-rising next (suc i) ss)
  where
    go : (m : Mark) → ((next : ℕ → ℕ) → rising next (map read_back (map entry_of (live_from (suc i) ss))) ≡ map tidied (rising next (keep live ss))) →
        rising seen (map read_back (map entry_of (live_from i (with_mark s m ∷ ss)))) ≡ map tidied (rising seen (keep live (with_mark s m ∷ ss)))
    go (dead u) ih = ih seen
    go (unkeyed u) ih = rw (ih seen)
    go (keyed k p) ih = rw (ih (one_more k seen))

module _ (s : State) (t : Writable s.header (map entry_of (live_from 0 s.slots))) where
  pub read-written : state_in (file_bytes s.header (live_from 0 s.slots)) ≡ saved s
  unfolding saved compacted
  read-written = value-back s.header (map entry_of (live_from 0 s.slots)) t ∙ (λ i. with_slots s false (tidied-rising (λ k. 0) 0 s.slots i))
