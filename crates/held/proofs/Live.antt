-- The live slots of a value by the numbers of its slots: those below n at which the slot is live.
use mathlib.Core.Path.{◌≡◌, refl, sym, ap, ◌∙◌}
use mathlib.Core.Bool.{Bool, true, false, cond}
use mathlib.Core.List.{List, [], ◌∷◌, map, map-map}
use mathlib.Core.Option.{Option, none, some}
use Prim.Native.Nat.{ℕ, suc, ◌<◌}
use native.Mathlib.Nat.{zero-add}
use lib.ListN.{length, get_or}
use Rattle.lists.specs.Lists.{tab, below}
use Rattle.lists.specs.Keep.{keep, count, numbered}
use Rattle.lists.proofs.Laws.{length-tab, get_or-tab}
use Rattle.lists.proofs.Keep.{keep-map, keep-keep, count_map, count-keep-implied, length-numbered, get_d_numbered}
use Rattle.lists.proofs.Front.{map-tab, tab-is}
use Rattle.index.specs.State.{Slot, live}
use Rattle.index.specs.Step.{Cell, live_from, number_where}

-- ---- the live slots

abbrev pub first_in : List ℕ → Option ℕ
first_in [] = none
first_in (i ∷ is) = some i

abbrev cell : ℕ × Slot → Cell
cell e = record { number = e.0; slot = e.1 }

live-numbered : (i : ℕ) (ss : List Slot) → live_from i ss ≡ map cell (keep (λ (e : ℕ × Slot). live e.1) (numbered i ss))
unfolding live_from
live-numbered i [] = refl
live-numbered i (s ∷ ss) = go (live s) (live-numbered (suc i) ss)
  where
    go : (b : Bool) → live_from (suc i) ss ≡ map cell (keep (λ (e : ℕ × Slot). live e.1) (numbered (suc i) ss)) →
        cond b (cell (i, s) ∷ live_from (suc i) ss) (live_from (suc i) ss) ≡
        map cell (cond b ((i, s) ∷ keep (λ (e : ℕ × Slot). live e.1) (numbered (suc i) ss)) (keep (λ (e : ℕ × Slot). live e.1) (numbered (suc i) ss)))
    go true ih = rw ih
    go false ih = ih

-- a table's entries are numbered by their places
pub numbered-tab : {X : Type 0} (f : ℕ → X) (n : ℕ) → numbered 0 (tab f n) ≡ map (λ i. (i, f i)) (below n)
numbered-tab {X} f n =
    sym (tab-is (λ i. (i, f i)) (numbered 0 (tab f n)) (λ i d l. sym (at i d (rw (length-numbered 0 (tab f n)) at l))))
    ∙ ap (tab (λ i. (i, f i))) (length-numbered 0 (tab f n) ∙ length-tab f n) ∙ sym (map-tab (λ i. (i, f i)) (λ i. i) n)
  where
    at : (i : ℕ) (d : ℕ × X) → i < length (tab f n) → get_or (numbered 0 (tab f n)) i d ≡ (i, f i)
    at i d l = get_d_numbered 0 (tab f n) i d l ∙ rw (zero-add i, get_or-tab f n i d.1 (rw (length-tab f n) at l))

module _ (f : ℕ → Slot) (n : ℕ) where
  abbrev pub cell_at : ℕ → Cell
  cell_at i = record { number = i; slot = f i }

  pub live-tab : live_from 0 (tab f n) ≡ map cell_at (keep (λ i. live (f i)) (below n))
  live-tab =
      live-numbered 0 (tab f n) ∙ ap (λ (es : List (ℕ × Slot)). map cell (keep (λ e. live e.1) es)) (numbered-tab f n)
      ∙ ap (map cell) (keep-map (λ i. (i, f i)) (λ e. live e.1) (below n)) ∙ map-map cell (λ i. (i, f i)) (keep (λ i. live (f i)) (below n))

  -- ---- questions that no dead slot passes

  number-first : (q : Cell → Bool) (is : List ℕ) → number_where q (map cell_at is) ≡ first_in (keep (λ i. q (cell_at i)) is)
  unfolding number_where
  number-first q [] = refl
  number-first q (i ∷ is) = go (q (cell_at i)) (number-first q is)
    where
      go : (b : Bool) → number_where q (map cell_at is) ≡ first_in (keep (λ i. q (cell_at i)) is) →
          cond b (some i) (number_where q (map cell_at is)) ≡ first_in (cond b (i ∷ keep (λ i. q (cell_at i)) is) (keep (λ i. q (cell_at i)) is))
      go true ih = refl
      go false ih = ih

  module _ (q : Cell → Bool) (alive : (i : ℕ) → q (cell_at i) ≡ true → live (f i) ≡ true) where
    pub live-count : count q (live_from 0 (tab f n)) ≡ count (λ i. q (cell_at i)) (below n)
    live-count =
        ap (count q) live-tab ∙ count_map cell_at q (keep (λ i. live (f i)) (below n))
        ∙ count-keep-implied (λ i. q (cell_at i)) (λ i. live (f i)) (below n) alive

    pub live-first : number_where q (live_from 0 (tab f n)) ≡ first_in (keep (λ i. q (cell_at i)) (below n))
    live-first =
        ap (number_where q) live-tab ∙ number-first q (keep (λ i. live (f i)) (below n))
        ∙ ap first_in (keep-keep (λ i. q (cell_at i)) (λ i. live (f i)) (below n) alive)
