-- The live slots with their arrivals, under each kind of change of the slots.
use mathlib.Core.Path.{◌≡◌, refl, sym, ap, ◌∙◌}
use mathlib.Core.Bool.{Bool, true, false, cond, ◌&&◌, ◌||◌}
use mathlib.Core.List.{List, [], ◌∷◌, ◌++◌, map}
use Prim.Native.Nat.{ℕ, suc, ◌+◌, ◌<◌}
use native.Mathlib.Nat.{add-suc, suc-add, add-zero, zero-add}
use native.Mathlib.Omega.{arith}
use lib.ListN.{length, get_or}
use Rattle.lists.specs.Lists.{tab}
use Rattle.lists.specs.Keep.{keep, Each, any}
use Rattle.lists.proofs.Laws.{length-tab, get_or-tab}
use Rattle.lists.proofs.Keep.{each_weaken}
use Rattle.index.specs.State.{Mark, dead, unkeyed, keyed, Slot, with_mark, live}
use Rattle.index.specs.Step.{Cell, live_from, must_stay, any_must_stay}
use Rattle.index.proofs.Questions.{rename}
use Rattle.histories.specs.Histories.{live_by}
use Rattle.histories.proofs.Arrivals.{Sorted}

abbrev pub on_cell : (Slot → Slot) → Cell → Cell
on_cell g c = record { number = c.number; slot = g c.slot }

abbrev pub live_cell : Cell → Bool
live_cell c = live c.slot

abbrev pub cell_ids : List Cell → List ℕ
cell_ids cs = map (λ c. c.number) cs

-- one whose mark passes, and whose year must stay
abbrev pub cell_stays : (present : ℕ) → (Mark → Bool) → Cell → Bool
cell_stays present p c = p c.slot.mark && must_stay present c.slot.year

-- a live slot's number, read through the arrivals
pub cells-read : (f : ℕ → ℕ) (i : ℕ) (ws : List ℕ) (ss : List Slot) → length ws ≡ length ss → ((j : ℕ) → f (i + j) ≡ get_or ws j 0) →
    map (rename f) (live_from i ss) ≡ live_by ws ss
unfolding live_from
cells-read f i [] [] e h = refl
cells-read f i [] (s ∷ ss) e h = absurd (omega arith)
cells-read f i (a ∷ ws) [] e h = absurd (omega arith)
cells-read f i (a ∷ ws) (s ∷ ss) e h = go (live s) (ap f (sym (add-zero i)) ∙ h 0) (cells-read f (suc i) ws ss (omega arith)
    (λ j. ap f (suc-add i j ∙ sym (add-suc i j)) ∙ h (suc j)))
  where
    go : (b : Bool) → f i ≡ a → map (rename f) (live_from (suc i) ss) ≡ live_by ws ss →
        map (rename f) (cond b (record { number = i; slot = s } ∷ live_from (suc i) ss) (live_from (suc i) ss)) ≡
        cond b (record { number = a; slot = s } ∷ live_by ws ss) (live_by ws ss)
    go true n ih = rw (n, ih)
    go false n ih = ih

-- each live slot's number is below the slots in use
pub cells-below : (i n : ℕ) (ss : List Slot) → n ≡ i + length ss → Each (λ c. c.number < n) (live_from i ss)
unfolding live_from
cells-below i n [] e = tt
cells-below i n (s ∷ ss) e = go (live s) (omega arith) (cells-below (suc i) n ss (omega arith))
  where
    go : (b : Bool) → i < n → Each (λ c. c.number < n) (live_from (suc i) ss) → Each (λ c. c.number < n)
        (cond b (record { number = i; slot = s } ∷ live_from (suc i) ss) (live_from (suc i) ss))
    go true l ih = (l, ih)
    go false l ih = ih

map-own : (f : ℕ → ℕ) (cs : List Cell) → Each (λ c. f c.number ≡ c.number) cs → map (rename f) cs ≡ cs
map-own f [] h = refl
map-own f (c ∷ cs) h = rw (h.0, map-own f cs h.1)

-- slots that arrive as 0, 1, 2 in slot order
pub cells-in-order : (n : ℕ) (ss : List Slot) → length ss ≡ n → live_by (tab (λ i. i) n) ss ≡ live_from 0 ss
cells-in-order n ss e =
    let f : ℕ → ℕ = λ i. get_or (tab (λ i. i) n) i 0 in
    sym (cells-read f 0 (tab (λ i. i) n) ss (length-tab (λ i. i) n ∙ sym e) (λ j. ap f (zero-add j))) ∙
    map-own f (live_from 0 ss)
    (each_weaken (λ c. c.number < n) (λ c. f c.number ≡ c.number) (live_from 0 ss) (λ c l. get_or-tab (λ i. i) n c.number 0 l)
    (cells-below 0 n ss (sym e ∙ sym (zero-add (length ss)))))

-- each slot changed by itself, no dead one revived
pub cells-map : (g : Slot → Slot) → ((s : Slot) → live s ≡ false → live (g s) ≡ false) → (ws : List ℕ) (ss : List Slot) →
    live_by ws (map g ss) ≡ keep live_cell (map (on_cell g) (live_by ws ss))
cells-map g d [] ss = refl
cells-map g d (a ∷ ws) [] = refl
cells-map g d (a ∷ ws) (s ∷ ss) = go (live s) refl (cells-map g d ws ss)
  where
    go : (b : Bool) → live s ≡ b → live_by ws (map g ss) ≡ keep live_cell (map (on_cell g) (live_by ws ss)) →
        cond (live (g s)) (record { number = a; slot = g s } ∷ live_by ws (map g ss)) (live_by ws (map g ss)) ≡
        keep live_cell (map (on_cell g) (cond b (record { number = a; slot = s } ∷ live_by ws ss) (live_by ws ss)))
    go true e ih = rw ih
    go false e ih = rw (d s e) ih

-- one more slot, a live one
pub cells-more : (n : ℕ) (x : Slot) (ws : List ℕ) (ss : List Slot) → length ws ≡ length ss → live x ≡ true →
    live_by (ws ++ (n ∷ [])) (ss ++ (x ∷ [])) ≡ live_by ws ss ++ (record { number = n; slot = x } ∷ [])
cells-more n x [] [] e l = rw l
cells-more n x [] (s ∷ ss) e l = absurd (omega arith)
cells-more n x (a ∷ ws) [] e l = absurd (omega arith)
cells-more n x (a ∷ ws) (s ∷ ss) e l = go (live s) (cells-more n x ws ss (omega arith) l)
  where
    tip : List Cell
    tip = record { number = n; slot = x } ∷ []

    go : (b : Bool) → live_by (ws ++ (n ∷ [])) (ss ++ (x ∷ [])) ≡ live_by ws ss ++ tip →
        cond b (record { number = a; slot = s } ∷ live_by (ws ++ (n ∷ [])) (ss ++ (x ∷ []))) (live_by (ws ++ (n ∷ [])) (ss ++ (x ∷ []))) ≡
        cond b (record { number = a; slot = s } ∷ live_by ws ss) (live_by ws ss) ++ tip
    go true ih = rw ih
    go false ih = ih

-- what a compaction keeps: the slots of the live cells
pub cells-slots : (ws : List ℕ) (ss : List Slot) → length ws ≡ length ss → map (λ c. c.slot) (live_by ws ss) ≡ keep live ss
cells-slots [] [] e = refl
cells-slots [] (s ∷ ss) e = absurd (omega arith)
cells-slots (a ∷ ws) [] e = absurd (omega arith)
cells-slots (a ∷ ws) (s ∷ ss) e = go (live s) (cells-slots ws ss (omega arith))
  where
    go : (b : Bool) → map (λ c. c.slot) (live_by ws ss) ≡ keep live ss → map (λ c. c.slot)
        (cond b (record { number = a; slot = s } ∷ live_by ws ss) (live_by ws ss)) ≡ cond b (s ∷ keep live ss) (keep live ss)
    go true ih = rw ih
    go false ih = ih

-- and after it all slots are live
pub cells-again : (cs : List Cell) → Each (λ c. live_cell c ≡ true) cs → live_by (cell_ids cs) (map (λ c. c.slot) cs) ≡ cs
cells-again [] h = refl
cells-again (c ∷ cs) h = rw h.0 (ap (λ (r : List Cell). c ∷ r) (cells-again cs h.1))

-- a dead slot's year counts for nothing
pub stays-live : (present : ℕ) (p : Mark → Bool) → ((u : ℕ) → p (dead u) ≡ false) → (ws : List ℕ) (ss : List Slot) → length ws ≡ length ss →
    any_must_stay p present ss ≡ any (cell_stays present p) (live_by ws ss)
unfolding any_must_stay any
stays-live present p d [] [] e = refl
stays-live present p d [] (s ∷ ss) e = absurd (omega arith)
stays-live present p d (a ∷ ws) [] e = absurd (omega arith)
stays-live present p d (a ∷ ws) (s ∷ ss) e = go s.mark (stays-live present p d ws ss (omega arith))
  where
    go : (m : Mark) → any_must_stay p present ss ≡ any (cell_stays present p) (live_by ws ss) →
        any_must_stay p present (with_mark s m ∷ ss) ≡ any (cell_stays present p) (live_by (a ∷ ws) (with_mark s m ∷ ss))
    go (dead u) ih = rw (d u) ih
    go (unkeyed u) ih = ap (λ (b : Bool). (p (unkeyed u) && must_stay present s.year) || b) ih
    go (keyed k q) ih = ap (λ (b : Bool). (p (keyed k q) && must_stay present s.year) || b) ih

-- what holds of each arrival of a list holds of the live ones
pub each-ids : (P : ℕ → Type 0) (ws : List ℕ) (ss : List Slot) → Each P ws → Each P (cell_ids (live_by ws ss))
each-ids P [] ss h = tt
each-ids P (a ∷ ws) [] h = tt
each-ids P (a ∷ ws) (s ∷ ss) h = go (live s) (each-ids P ws ss h.1)
  where
    go : (b : Bool) → Each P (cell_ids (live_by ws ss)) → Each P (cell_ids (cond b (record { number = a; slot = s } ∷ live_by ws ss) (live_by ws ss)))
    go true ih = (h.0, ih)
    go false ih = ih

pub sorted-ids : (ws : List ℕ) (ss : List Slot) → Sorted ws → Sorted (cell_ids (live_by ws ss))
sorted-ids [] ss h = tt
sorted-ids (a ∷ ws) [] h = tt
sorted-ids (a ∷ ws) (s ∷ ss) h = go (live s) (sorted-ids ws ss h.1)
  where
    go : (b : Bool) → Sorted (cell_ids (live_by ws ss)) → Sorted (cell_ids (cond b (record { number = a; slot = s } ∷ live_by ws ss) (live_by ws ss)))
    go true ih = (each-ids (λ x. a < x) ws ss h.0, ih)
    go false ih = ih
