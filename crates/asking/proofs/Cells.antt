-- The hits of marked slots are those of the step, whose cells are these slots: for the live marks, and for the marks of any candidates.
use mathlib.Core.Path.{◌≡◌, sym, ap, ◌∙◌}
use mathlib.Core.List.{List, map, map-map, map-id}
use Prim.Native.Nat.{ℕ, ◌<◌}
use lib.Ieee.{Float, is_nan}
use Rattle.lists.specs.Keep.{keep, Each, any}
use Rattle.lists.proofs.Keep.{each_keep}
use Rattle.lists.proofs.Front.{each-tab, each_map}
use Rattle.choose.specs.Choose.{choose}
use Rattle.choose.proofs.Choice.{choose-map, choose-each}
use Rattle.score.specs.Order.{order_number}
use Rattle.encode.specs.declared.Header.{Header}
use Rattle.index.specs.Arrays.{Arrays}
use Rattle.index.specs.State.{slot_at}
use Rattle.index.specs.Step.{Query, Cell, key_of_mark, Hit, hit_of, rank, by_slot, hits_of}
use Rattle.index.proofs.Questions.{any-map}
use Rattle.lists.specs.Lists.{below}
use Rattle.held.proofs.Live.{cell_at}
use Rattle.marks.specs.Live.{live_at}
use Rattle.hits.specs.Hits.{score_at, scored_slots, chosen}

-- the score of each slot by the arrays
abbrev pub scores : Header → Arrays → Query → ℕ → Float
scores h a q = score_at h a.codes a.scales a.codes2 a.scales2 q

-- the marked slots as the step has them
abbrev pub cells : Header → Arrays → (marks : List ℕ) → (n : ℕ) → List Cell
cells h a marks n = map (cell_at (slot_at h a) n) (keep (live_at marks) (below n))

-- a listed slot as the step has it
abbrev pub hit : Header → Arrays → ℕ × Float → Hit
hit h a e = record { number = e.0; key = key_of_mark (slot_at h a e.0).mark; score = e.1 }

pub by-slot : (h : Header) (a : Arrays) (es : List (ℕ × Float)) → map by_slot (map (hit h a) es) ≡ es
by-slot h a es = map-map by_slot (hit h a) es ∙ map-id es

module _ (h : Header) (a : Arrays) (q : Query) (marks : List ℕ) (n : ℕ) where
  pub hits-entered : hits_of h q (cells h a marks n) ≡ map (hit h a) (scored_slots (scores h a q) marks n)
  unfolding scored_slots score_at slot_at
  hits-entered =
      map-map (hit_of h q) (cell_at (slot_at h a) n) (keep (live_at marks) (below n))
      ∙ sym (map-map (hit h a) (λ (i : ℕ). (i, scores h a q i)) (keep (live_at marks) (below n)))

  pub hits-nan : any (λ x. is_nan x.score) (hits_of h q (cells h a marks n)) ≡ any (λ e. is_nan e.1) (scored_slots (scores h a q) marks n)
  hits-nan = ap (any (λ x. is_nan x.score)) hits-entered ∙ any-map (λ x. is_nan x.score) (hit h a) (scored_slots (scores h a q) marks n)

  module _ (k : ℕ) where
    pub hits-chosen : choose rank k (hits_of h q (cells h a marks n)) ≡ map (hit h a) (chosen (scores h a q) marks n k)
    hits-chosen = ap (choose rank k) hits-entered ∙ choose-map rank (hit h a) k (scored_slots (scores h a q) marks n)

    pub hits-listed : map by_slot (choose rank k (hits_of h q (cells h a marks n))) ≡ chosen (scores h a q) marks n k
    hits-listed = ap (map by_slot) hits-chosen ∙ by-slot h a (chosen (scores h a q) marks n k)

    -- no slot past those in use is listed
    pub chosen-low : Each (λ e. e.0 < n) (chosen (scores h a q) marks n k)
    unfolding scored_slots
    chosen-low =
        choose-each (λ (e : ℕ × Float). order_number e.1) k (scored_slots (scores h a q) marks n) (λ (e : ℕ × Float). e.0 < n)
        (each_map (λ (e : ℕ × Float). e.0 < n) (λ (i : ℕ). (i, scores h a q i)) (keep (live_at marks) (below n))
        (each_keep (λ i. i < n) (live_at marks) (below n) (each-tab (λ i. i < n) (λ i. i) n (λ i l. l))))
