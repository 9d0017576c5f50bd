-- The slots of the arrays hold the live arrivals that the calls tell of: what each kind of change keeps of this.
use mathlib.Core.Path.{◌≡◌, refl, sym, ap, ap₂, ◌∙◌, subst}
use mathlib.Core.Bool.{Bool, true, false, cond, ◌||◌}
use mathlib.Core.List.Memᴰ
use mathlib.Core.List.{List, [], ◌∷◌, ◌++◌, map, map-append, Memᴰ}
use mathlib.Core.Option.{Option, none, some}
use Prim.Native.Nat.{ℕ, zero, suc, ◌<◌}
use native.Mathlib.Nat.{zero-add}
use native.Mathlib.Omega.{arith}
use lib.ListN.{length, get_or, get_elem?, length-append, length-map}
use lib.Seq.{get_or_at}
use lib.Dec.{T, ltb, eqb}
use borrow.Author.Tests.{eqb-true, le-ltb}
use Rattle.lists.specs.Keep.{bit, keep, Each, any}
use Rattle.lists.proofs.Keep.{each_append, each_weaken, each-mem, count-append}
use Rattle.lists.proofs.Members.{each_of, mem-map}
use Rattle.index.specs.State.{Slot, live}
use Rattle.index.specs.Step.{Cell, live_from, rising, compacted}
use Rattle.index.proofs.Questions.{rename}
use Rattle.histories.specs.Histories.{LiveArrival, ids, number_now, arrival_at, live_arrival, live_by, lives}
use Rattle.histories.proofs.Arrivals.{Sorted, sorted_more, number-all, at-number, number_at, read_number, number-first, number-later}
use Rattle.histories.proofs.Cells.{on_cell, live_cell, cell_ids, cells-read, cells-below, cells-map, cells-more, cells-slots, cells-again, each-ids, sorted-ids}
use Rattle.histories.proofs.Held.{cell_for, cells_of, all_seen, cells_told, cells-ids, cells-live, cells-joined, cells-rising, cells-held}

-- no arrival of any key came before
abbrev pub none_seen : ℕ → ℕ
none_seen k = 0

pub record Tracks (ws : List ℕ) (next : ℕ) (ss : List Slot) (ls : List LiveArrival) : Type 0 where
  pub places : length ws ≡ length ss
  pub sorted : Sorted ws
  pub below : Each (λ a. a < next) ws
  pub cells : live_by ws ss ≡ cells_of none_seen ls

-- ---- what it says

get_or-there : (ws : List ℕ) (i : ℕ) → i < length ws → get_elem? ws i ≡ some (get_or ws i 0)
get_or-there [] i l = absurd (omega arith)
get_or-there (a ∷ ws) zero l = refl
get_or-there (a ∷ ws) (suc i) l = get_or-there ws i (omega arith)

module _ {ws : List ℕ} {next : ℕ} {ss : List Slot} {ls : List LiveArrival} (t : Tracks ws next ss ls) where
  abbrev pub arrival_of : ℕ → ℕ
  arrival_of i = get_or ws i 0

  pub live-ids : cell_ids (live_by ws ss) ≡ ids ls
  live-ids = ap cell_ids t.cells ∙ cells-ids none_seen ls

  -- the number of a live arrival is its place
  pub live-numbers : Each (λ a. get_elem? ws (number_now ws a) ≡ some a) (ids ls)
  live-numbers = subst (Each (λ a. get_elem? ws (number_now ws a) ≡ some a)) live-ids (each-ids (λ a. get_elem? ws (number_now ws a) ≡ some a) ws ss
      (at-number ws t.sorted))

  pub ids-sorted : Sorted (ids ls)
  ids-sorted = subst Sorted live-ids (sorted-ids ws ss t.sorted)

  pub ids-below : Each (λ a. a < next) (ids ls)
  ids-below = subst (Each (λ a. a < next)) live-ids (each-ids (λ a. a < next) ws ss t.below)

  -- the live slots of the arrays, by arrival
  pub cells-seen : map (rename arrival_of) (live_from 0 ss) ≡ cells_of none_seen ls
  cells-seen = cells-read arrival_of 0 ws ss t.places (λ j. ap arrival_of (zero-add j)) ∙ t.cells

  -- and the number of each is read back
  pub numbers-read : Each (λ c. arrival_at ws (ids ls) c.number ≡ some (arrival_of c.number)) (live_from 0 ss)
  numbers-read = each-mem (λ c. arrival_at ws (ids ls) c.number ≡ some (arrival_of c.number)) (live_from 0 ss) go
    where
      low : Each (λ c. c.number < length ws) (live_from 0 ss)
      low = cells-below 0 (length ws) ss (t.places ∙ sym (zero-add (length ss)))

      go : (c : Cell) → Memᴰ c (live_from 0 ss) → arrival_at ws (ids ls) c.number ≡ some (arrival_of c.number)
      go c m =
          let l : c.number < length ws = each_of (λ d. d.number < length ws) m low in
          read_number ws (arrival_of c.number) c.number live-numbers (get_or-there ws c.number l)
          (subst (Memᴰ (arrival_of c.number)) (ap cell_ids cells-seen ∙ cells-ids none_seen ls)
          (mem-map (λ (d : Cell). d.number) (mem-map (rename arrival_of) m)))
          (number_at ws t.sorted c.number l)

  pub held-rises : rising none_seen ss ≡ ss
  held-rises = cells-held none_seen ws ss ls t.places t.cells

  pub marks-agree : map live_arrival (live_by ws ss) ≡ ls
  marks-agree = ap (map live_arrival) t.cells ∙ cells_told none_seen ls

  -- ---- what is kept

  -- each slot changed by itself, no dead one revived
  pub tracks-map : (g : Slot → Slot) (ls' : List LiveArrival) → ((s : Slot) → live s ≡ false → live (g s) ≡ false) →
      keep live_cell (map (on_cell g) (cells_of none_seen ls)) ≡ cells_of none_seen ls' → Tracks ws next (map g ss) ls'
  tracks-map g ls' d e =
      record {
        places = t.places ∙ sym (length-map ss g);
        sorted = t.sorted;
        below = t.below;
        cells = cells-map g d ws ss ∙ ap (λ (cs : List Cell). keep live_cell (map (on_cell g) cs)) t.cells ∙ e;
      }

  -- one more slot, of the next arrival
  pub tracks-more : (l : LiveArrival) → l.arrival ≡ next → Tracks (ws ++ (next ∷ [])) (suc next) (ss ++ ((cell_for (all_seen none_seen ls) l).slot ∷ []))
      (ls ++ (l ∷ []))
  tracks-more l e =
      record {
        places = omega (arith, length-append ws (next ∷ []), length-append ss ((cell_for (all_seen none_seen ls) l).slot ∷ []), t.places);
        sorted = sorted_more next ws t.sorted t.below;
        below = each_append (λ a. a < suc next) ws (next ∷ []) (each_weaken (λ a. a < next) (λ a. a < suc next) ws (λ a m. omega arith) t.below)
            (omega arith, tt);
        cells =
            cells-more next (cell_for (all_seen none_seen ls) l).slot ws ss t.places (cells-live (all_seen none_seen ls) (l ∷ [])).0 ∙
            ap₂ (λ (cs : List Cell) (n : ℕ). cs ++ (record { number = n; slot = (cell_for (all_seen none_seen ls) l).slot } ∷ [])) t.cells (sym e) ∙
            sym (cells-joined none_seen ls l);
      }

  -- a compaction
  pub compacted-slots : compacted ss ≡ map (λ c. c.slot) (cells_of none_seen ls)
  unfolding compacted
  compacted-slots = ap (rising none_seen) (sym (cells-slots ws ss t.places) ∙ ap (map (λ (c : Cell). c.slot)) t.cells) ∙ cells-rising none_seen ls

  pub tracks-compacted : Tracks (ids ls) next (compacted ss) ls
  tracks-compacted =
      let same : ids ls ≡ cell_ids (cells_of none_seen ls) = sym (cells-ids none_seen ls) in
      record {
        places =
            ap length same ∙ length-map (cells_of none_seen ls) (λ c. c.number) ∙ sym (length-map (cells_of none_seen ls) (λ c. c.slot)) ∙
            ap length (sym compacted-slots);
        sorted = ids-sorted;
        below = ids-below;
        cells = ap₂ live_by same compacted-slots ∙ cells-again (cells_of none_seen ls) (cells-live none_seen ls);
      }

-- the slot of a new arrival is read back
pub next-read : {ws : List ℕ} {next : ℕ} {ss : List Slot} {ls : List LiveArrival} → Tracks ws next ss ls → (l : LiveArrival) → l.arrival ≡ next →
    arrival_at (ws ++ (next ∷ [])) (ids (ls ++ (l ∷ []))) (length ss) ≡ some next
next-read {ws} {next} {ss} {ls} t l e =
    let more : Tracks (ws ++ (next ∷ [])) (suc next) (ss ++ ((cell_for (all_seen none_seen ls) l).slot ∷ [])) (ls ++ (l ∷ [])) = tracks-more t l e in
    let size : length (ws ++ (next ∷ [])) ≡ suc (length ws) = omega (arith, length-append ws (next ∷ [])) in
    read_number (ws ++ (next ∷ [])) next (length ss) (live-numbers more)
    (get_or-there (ws ++ (next ∷ [])) (length ss) (omega (arith, t.places)) ∙ ap some (get_or_at ws next [] 0 (length ss) t.places))
    (subst (Memᴰ next) (sym (map-append (λ (x : LiveArrival). x.arrival) ls (l ∷ []))) (Memᴰ.append_right (ids ls) (Memᴰ.head (sym e))))
    (omega (arith, count-append (λ b. ltb b next) ws (next ∷ []), ap bit (le-ltb next next (omega arith)), number-all next ws t.below, t.places))

-- ---- the slot that a live arrival names

abbrev pub find : (arrival : ℕ) → List Cell → Option Slot
find a [] = none
find a (c ∷ cs) = cond (eqb a c.number) (some c.slot) (find a cs)

any-above : (x a : ℕ) (zs : List ℕ) → Each (λ b. x < b) zs → any (eqb a) zs ≡ true → x < a
unfolding any
any-above x a [] h e = absurd (subst T (sym e) tt)
any-above x a (z ∷ zs) h e = go (eqb a z) refl e (any-above x a zs h.1)
  where
    go : (b : Bool) → eqb a z ≡ b → (b || any (eqb a) zs) ≡ true → (any (eqb a) zs ≡ true → x < a) → x < a
    go true f e ih = omega (arith, eqb-true a z f, h.0)
    go false f e ih = ih e

find-number : (ws : List ℕ) (ss : List Slot) (a : ℕ) → Sorted ws → any (eqb a) (cell_ids (live_by ws ss)) ≡ true → get_elem? ss (number_now ws a) ≡ find a (live_by ws ss)
unfolding any
find-number [] ss a s e = absurd (subst T (sym e) tt)
find-number (w ∷ ws) [] a s e = absurd (subst T (sym e) tt)
find-number (w ∷ ws) (x ∷ ss) a s e =
    go (live x)
    (λ f. ap (get_elem? (x ∷ ss)) (number-later w a ws (any-above w a (cell_ids (live_by ws ss)) (each-ids (λ b. w < b) ws ss s.0) f)) ∙
    find-number ws ss a s.1 f) e
  where
    go : (b : Bool) → (any (eqb a) (cell_ids (live_by ws ss)) ≡ true → get_elem? (x ∷ ss) (number_now (w ∷ ws) a) ≡ find a (live_by ws ss)) →
        any (eqb a) (cell_ids (cond b (record { number = w; slot = x } ∷ live_by ws ss) (live_by ws ss))) ≡ true →
        get_elem? (x ∷ ss) (number_now (w ∷ ws) a) ≡ find a (cond b (record { number = w; slot = x } ∷ live_by ws ss) (live_by ws ss))
    go true later f = at (eqb a w) refl f
      where
        at : (b : Bool) → eqb a w ≡ b → (b || any (eqb a) (cell_ids (live_by ws ss))) ≡ true →
            get_elem? (x ∷ ss) (number_now (w ∷ ws) a) ≡ cond b (some x) (find a (live_by ws ss))
        at true g f = ap (λ (c : ℕ). get_elem? (x ∷ ss) (number_now (w ∷ ws) c)) (eqb-true a w g) ∙ ap (get_elem? (x ∷ ss)) (number-first w ws s.0)
        at false g f = later f
    go false later f = later f

pub live-slot : {ws : List ℕ} {next : ℕ} {ss : List Slot} {ls : List LiveArrival} → Tracks ws next ss ls → (a : ℕ) → lives ls a ≡ true →
    get_elem? ss (number_now ws a) ≡ find a (cells_of none_seen ls)
live-slot {ws} {next} {ss} {ls} t a e = find-number ws ss a t.sorted (ap (any (eqb a)) (live-ids t) ∙ e) ∙ ap (find a) t.cells
