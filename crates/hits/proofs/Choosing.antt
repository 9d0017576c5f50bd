-- From the order numbers in the working array to the choice among the marked slots.
use mathlib.Core.Path.{◌≡◌, refl, ap, ◌∙◌, subst}
use mathlib.Core.Bool.{Bool, true, false}
use mathlib.Core.List.{List, [], ◌∷◌, map, map-map, map-id}
use Prim.Native.Nat.{ℕ}
use lib.Dec.{T, ltb}
use lib.ListN.{get_or}
use lib.Ieee.{Float, binary32, fits, is_nan}
use borrow.Author.Tests.{lt-ltb}
use Rattle.pattern.specs.Binary32.{+0}
use Rattle.lists.specs.Lists.{tab, below}
use Rattle.lists.specs.Keep.{keep, Each}
use Rattle.lists.proofs.Laws.{get_or-tab}
use Rattle.lists.proofs.Keep.{each_keep, each-kept, map_same}
use Rattle.lists.proofs.Front.{each-tab}
use Rattle.choose.specs.Choose.{choose}
use Rattle.choose.proofs.Choice.{choose-map, choose-each}
use Rattle.score.specs.Order.{order_number}
use Rattle.score.proofs.Order.{number-positive}
use Rattle.held.proofs.Live.{numbered-tab}
use Rattle.choose_slots.specs.Slots as Slots
use Rattle.choose_slots.specs.Slots.{listed}
use Rattle.marks.specs.Live.{live_at}
use Rattle.hits.specs.Hits.{scored_slots, chosen}
use Rattle.hits.specs.Steps.{score_entry, order_entry, nan_at}

entry-own : (score : ℕ → Float) (marks : List ℕ) (i : ℕ) → live_at marks i ≡ true → score_entry score marks i ≡ score i
unfolding score_entry
entry-own score marks i m = rw m

-- ---- the choice, by slot numbers

module _ (score : ℕ → Float) (marks : List ℕ) where
  abbrev order : ℕ → ℕ
  order i = order_number (score i)

  -- the slots that take part
  abbrev taking : ℕ → List ℕ
  taking n = keep (live_at marks) (below n)

  -- the chosen slots
  abbrev pub picks : (n k : ℕ) → List ℕ
  picks n k = choose order k (taking n)

  pub chosen-picks : (n k : ℕ) → chosen score marks n k ≡ map (λ i. (i, score i)) (picks n k)
  unfolding scored_slots
  chosen-picks n k = choose-map (λ (e : ℕ × Float). order_number e.1) (λ (i : ℕ). (i, score i)) k (taking n)

  pub chosen-slots : (n k : ℕ) → map (λ e. e.0) (chosen score marks n k) ≡ picks n k
  chosen-slots n k =
      ap (map (λ (e : ℕ × Float). e.0)) (chosen-picks n k) ∙ map-map (λ (e : ℕ × Float). e.0) (λ (i : ℕ). (i, score i)) (picks n k) ∙ map-id (picks n k)

  pub chosen-scores : (n k : ℕ) → map (λ e. e.1) (chosen score marks n k) ≡ map score (picks n k)
  chosen-scores n k = ap (map (λ (e : ℕ × Float). e.1)) (chosen-picks n k) ∙ map-map (λ (e : ℕ × Float). e.1) (λ (i : ℕ). (i, score i)) (picks n k)

  module _ (float : (i : ℕ) → T (fits binary32 (score i))) where
    abbrev entry : ℕ → ℕ × ℕ
    entry i = (i, order_entry score marks i)

    -- a slot that takes part has an order number above 0, as no score is NaN
    kept : (is : List ℕ) → Each (λ i. nan_at score marks i ≡ false) is →
        keep (λ e. ltb 0 e.1) (map entry is) ≡ map (λ i. (i, order i)) (keep (live_at marks) is)
    unfolding order_entry
    kept [] none = refl
    kept (i ∷ is) none =
        go (live_at marks i) refl (is_nan (score i)) refl none.0 (kept is none.1)
      where
        go : (b : Bool) → live_at marks i ≡ b → (c : Bool) → is_nan (score i) ≡ c → nan_at score marks i ≡ false →
            keep (λ e. ltb 0 e.1) (map entry is) ≡ map (λ i. (i, order i)) (keep (live_at marks) is) →
            keep (λ e. ltb 0 e.1) (map entry (i ∷ is)) ≡ map (λ i. (i, order i)) (keep (live_at marks) (i ∷ is))
        go false e c f none ih = rw e ih
        go true e true f none ih = absurd (subst T (rw (e, f) at none) tt)
        go true e false f none ih = rw (e, lt-ltb 0 (order i) (number-positive (score i) (float i) f), ih)

    pub listed-picks : (n k : ℕ) → Each (λ i. nan_at score marks i ≡ false) (below n) → listed (tab (order_entry score marks) n) k ≡ picks n k
    unfolding listed Slots.taking_part
    listed-picks n k none =
        let few : Slots.taking_part (tab (order_entry score marks) n) ≡ map (λ i. (i, order i)) (taking n) =
        ap (keep (λ (e : ℕ × ℕ). ltb 0 e.1)) (numbered-tab (order_entry score marks) n) ∙ kept (below n) none in
        ap (λ (es : List (ℕ × ℕ)). map (λ e. e.0) (choose (λ e. e.1) k es)) few
        ∙ ap (map (λ (e : ℕ × ℕ). e.0)) (choose-map (λ (e : ℕ × ℕ). e.1) (λ (i : ℕ). (i, order i)) k (taking n))
        ∙ map-map (λ (e : ℕ × ℕ). e.0) (λ (i : ℕ). (i, order i)) (picks n k) ∙ map-id (picks n k)

  -- their scores stand in the working array
  pub picks-scores : (n k : ℕ) → map (λ i. get_or (tab (score_entry score marks) n) i +0) (picks n k) ≡ map score (picks n k)
  picks-scores n k = map_same read (score_entry score marks) (picks n k) entries ∙ map_same (score_entry score marks) score (picks n k) own
    where
      read : ℕ → Float
      read i = get_or (tab (score_entry score marks) n) i +0

      entries : Each (λ i. read i ≡ score_entry score marks i) (picks n k)
      entries =
          choose-each order k (taking n) (λ i. read i ≡ score_entry score marks i)
          (each_keep (λ i. read i ≡ score_entry score marks i) (live_at marks) (below n)
          (each-tab (λ i. read i ≡ score_entry score marks i) (λ i. i) n (λ i l. get_or-tab (score_entry score marks) n i +0 l)))

      own : Each (λ i. score_entry score marks i ≡ score i) (picks n k)
      own =
          choose-each order k (taking n) (λ i. score_entry score marks i ≡ score i)
          (each-kept (λ i. score_entry score marks i ≡ score i) (live_at marks) (below n) (entry-own score marks))
