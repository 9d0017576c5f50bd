-- The cells that live arrivals stand for, positions rising, and what each call does to them.
use mathlib.Core.Path.{◌≡◌, refl, sym, ap, ap₂, ◌∙◌, subst}
use mathlib.Core.Bool.{Bool, true, false, not, cond, ◌&&◌, ◌||◌, or-false}
use mathlib.Core.List.{List, [], ◌∷◌, ◌++◌, map, head-eq_of_cons-eq, tail-eq_of_cons-eq}
use mathlib.Core.Option.{Option, none, some}
use Prim.Native.Nat.{ℕ, zero, suc, ◌+◌, ◌<◌}
use native.Mathlib.Nat.{zero-add}
use native.Mathlib.Omega.{arith}
use lib.ListN.{length, get_elem?}
use lib.Dec.{T, ltb, eqb}
use borrow.Author.Tests.{eqb-true, eqb-false, eq-eqb, ne_eqb, lt-ltb}
use Rattle.lists.specs.Keep.{bit, keep, count, Each, any}
use Rattle.encode.specs.declared.Header.{Header}
use Rattle.encode.specs.Coded.{spare_of}
use Rattle.index.specs.State.{Mark, dead, unkeyed, keyed, is_live, Slot, key_word, position, new_slot, with_mark}
use Rattle.index.specs.Codec.{encoded}
use Rattle.index.specs.Step as Step
use Rattle.index.specs.Step.{Item, Cell, holds, holds_at, key_of_mark, held_by, is_held, number_where, slot_holding, must_stay, on_mark, removed, one_more, rising, live_from}
use Rattle.index.proofs.Read.{unkeyed_word}
use Rattle.histories.specs.Histories.{LiveArrival, is_key, carries, taken, coded_anew, first_overwritten, renamed, ids, holders, first_with, one_stays, live_arrival, live_by}
use Rattle.histories.proofs.Cells.{on_cell, live_cell, cell_ids, cell_stays}

-- the mark of a live arrival, `seen` saying how many arrivals of each key came before
abbrev pub mark_for : (seen : ℕ → ℕ) → Option ℕ → Mark
mark_for seen none = unkeyed 0
mark_for seen (some k) = keyed k (seen k)

abbrev pub seen_after : (ℕ → ℕ) → Option ℕ → ℕ → ℕ
seen_after seen none = seen
seen_after seen (some k) = one_more k seen

-- a live arrival under another key, and its cell under another mark
abbrev keyed_as : LiveArrival → Option ℕ → LiveArrival
keyed_as l o = record { arrival = l.arrival; key = o; code = l.code; year = l.year }

abbrev marked_as : LiveArrival → Mark → Cell
marked_as l m = record { number = l.arrival; slot = new_slot m l.code l.year }

abbrev pub cell_for : (seen : ℕ → ℕ) → LiveArrival → Cell
cell_for seen l = marked_as l (mark_for seen l.key)

abbrev pub cells_of : (seen : ℕ → ℕ) → List LiveArrival → List Cell
cells_of seen [] = []
cells_of seen (l ∷ ls) = cell_for seen l ∷ cells_of (seen_after seen l.key) ls

-- ---- counting

pub more-other : (k j : ℕ) (seen : ℕ → ℕ) → (k ≡ j → ⊥) → one_more k seen j ≡ seen j
more-other k j seen f = rw (ne_eqb k j f)

pub more_same : (k : ℕ) (seen : ℕ → ℕ) → one_more k seen k ≡ suc (seen k)
more_same k seen = rw (eq-eqb k k refl)

more-both : (k j : ℕ) (c d : ℕ → ℕ) → c j ≡ d j → one_more k c j ≡ one_more k d j
more-both k j c d e = ap (λ (n : ℕ). cond (eqb k j) (suc n) n) e

after-count : (o : Option ℕ) (j : ℕ) (seen : ℕ → ℕ) → seen_after seen o j ≡ bit (is_key j o) + seen j
after-count none j seen = omega arith
after-count (some k) j seen = go (eqb k j)
  where
    go : (b : Bool) → cond b (suc (seen j)) (seen j) ≡ bit b + seen j
    go true = omega arith
    go false = omega arith

-- ---- what the cells say of the arrivals

pub cells_told : (seen : ℕ → ℕ) (ls : List LiveArrival) → map live_arrival (cells_of seen ls) ≡ ls
cells_told seen [] = refl
cells_told seen (l ∷ ls) = ap₂ (λ (x : LiveArrival) (xs : List LiveArrival). x ∷ xs) (go l.key) (cells_told (seen_after seen l.key) ls)
  where
    go : (o : Option ℕ) → ◌≡◌ {A = LiveArrival} (keyed_as l (key_of_mark (mark_for seen o))) (keyed_as l o)
    go none = refl
    go (some k) = refl

pub cells-ids : (seen : ℕ → ℕ) (ls : List LiveArrival) → cell_ids (cells_of seen ls) ≡ ids ls
cells-ids seen [] = refl
cells-ids seen (l ∷ ls) = ap (λ (r : List ℕ). l.arrival ∷ r) (cells-ids (seen_after seen l.key) ls)

pub cells-length : (seen : ℕ → ℕ) (ls : List LiveArrival) → length (cells_of seen ls) ≡ length ls
cells-length seen [] = refl
cells-length seen (l ∷ ls) = ap suc (cells-length (seen_after seen l.key) ls)

mark-live : (seen : ℕ → ℕ) (o : Option ℕ) → is_live (mark_for seen o) ≡ true
mark-live seen none = refl
mark-live seen (some k) = refl

pub cells-live : (seen : ℕ → ℕ) (ls : List LiveArrival) → Each (λ c. live_cell c ≡ true) (cells_of seen ls)
cells-live seen [] = tt
cells-live seen (l ∷ ls) = (mark-live seen l.key, cells-live (seen_after seen l.key) ls)

mark-holds : (seen : ℕ → ℕ) (j : ℕ) (o : Option ℕ) → holds j (mark_for seen o) ≡ is_key j o
mark-holds seen j none = refl
mark-holds seen j (some k) = refl

pub held-count : (j : ℕ) (seen : ℕ → ℕ) (ls : List LiveArrival) → held_by j (cells_of seen ls) ≡ count (carries j) ls
held-count j seen [] = refl
held-count j seen (l ∷ ls) = omega (arith, ap bit (mark-holds seen j l.key), held-count j (seen_after seen l.key) ls)

taken-count : (j : ℕ) (ls : List LiveArrival) → ltb 0 (count (carries j) ls) ≡ taken j ls
unfolding any
taken-count j [] = refl
taken-count j (l ∷ ls) = go (carries j l) (taken-count j ls)
  where
    go : (b : Bool) → ltb 0 (count (carries j) ls) ≡ taken j ls → ltb 0 (bit b + count (carries j) ls) ≡ (b || taken j ls)
    go true ih = lt-ltb 0 (1 + count (carries j) ls) (omega arith)
    go false ih = rw (zero-add (count (carries j) ls)) ih

pub held-taken : (j : ℕ) (seen : ℕ → ℕ) (ls : List LiveArrival) → is_held j (cells_of seen ls) ≡ taken j ls
held-taken j seen ls = ap (ltb 0) (held-count j seen ls) ∙ taken-count j ls

pub untaken : (j : ℕ) (ls : List LiveArrival) → taken j ls ≡ false → count (carries j) ls ≡ 0
untaken j ls e = go (count (carries j) ls) (taken-count j ls ∙ e)
  where
    go : (n : ℕ) → ltb 0 n ≡ false → n ≡ 0
    go zero f = refl
    go (suc n) f = absurd (subst T (sym (lt-ltb 0 (suc n) (omega arith)) ∙ f) tt)

-- ---- the i-th arrival of a key, of which `seen` came before, holds the position i past these

pub holding : (j i : ℕ) (seen : ℕ → ℕ) (ls : List LiveArrival) → slot_holding j (i + seen j) (cells_of seen ls) ≡ get_elem? (holders j ls) i
unfolding number_where
holding j i seen [] = refl
holding j i seen (l ∷ ls) = go l.key (λ n next. holding j n next ls)
  where
    more : ℕ → (ℕ → ℕ) → Option ℕ
    more n next = slot_holding j (n + next j) (cells_of next ls)

    -- where its key is k
    at : (k : ℕ) (b : Bool) → eqb k j ≡ b → ((n : ℕ) (next : ℕ → ℕ) → more n next ≡ get_elem? (holders j ls) n) → (n : ℕ) →
        cond (b && eqb (seen k) (n + seen j)) (some l.arrival) (slot_holding j (n + seen j) (cells_of (one_more k seen) ls)) ≡
        get_elem? (ids (cond b (l ∷ keep (carries j) ls) (keep (carries j) ls))) n
    at k true e ih zero = rw (eq-eqb (seen k) (0 + seen j) (ap seen (eqb-true k j e) ∙ sym (zero-add (seen j))))
    at k true e ih (suc n) =
        let kj : k ≡ j = eqb-true k j e in
        let far : eqb (seen k) (suc n + seen j) ≡ false = ne_eqb (seen k) (suc n + seen j) (λ q. absurd (omega (arith, q, ap seen kj))) in
        rw far
        (ap (λ (m : ℕ). slot_holding j m (cells_of (one_more k seen) ls))
        (let z : one_more k seen j ≡ suc (seen j) = ap (λ (i : ℕ). one_more i seen j) kj ∙ more_same j seen in let y : suc n + seen j ≡ n + one_more k seen j = omega (arith, z) in y)
        ∙ ih n (one_more k seen))
    at k false e ih n =
        ap (λ (m : ℕ). slot_holding j (n + m) (cells_of (one_more k seen) ls)) (sym (more-other k j seen (eqb-false k j e))) ∙ ih n (one_more k seen)

    go : (o : Option ℕ) → ((n : ℕ) (next : ℕ → ℕ) → more n next ≡ get_elem? (holders j ls) n) →
        cond (holds_at j (i + seen j) (mark_for seen o)) (some l.arrival) (slot_holding j (i + seen j) (cells_of (seen_after seen o) ls)) ≡
        get_elem? (ids (cond (is_key j o) (l ∷ keep (carries j) ls) (keep (carries j) ls))) i
    go none ih = ih i seen
    go (some k) ih = at k (eqb k j) refl ih i

-- ---- the first arrival of a key holds position 0, and no other does

abbrev pub found : {A : Type 0} → Option A → Bool
found none = false
found (some a) = true

-- a key of which none came before: is this mark its first
mark-first : (seen : ℕ → ℕ) (j : ℕ) → seen j ≡ 0 → (o : Option ℕ) → holds_at j 0 (mark_for seen o) ≡ is_key j o
mark-first seen j z none = refl
mark-first seen j z (some k) = go (eqb k j) refl
  where
    go : (b : Bool) → eqb k j ≡ b → (b && eqb (seen k) 0) ≡ b
    go true e = eq-eqb (seen k) 0 (ap seen (eqb-true k j e) ∙ z)
    go false e = refl

-- of which some came before: none is
mark-later : (seen : ℕ → ℕ) (j : ℕ) → 0 < seen j → (o : Option ℕ) → holds_at j 0 (mark_for seen o) ≡ false
mark-later seen j z none = refl
mark-later seen j z (some k) = go (eqb k j) refl
  where
    go : (b : Bool) → eqb k j ≡ b → (b && eqb (seen k) 0) ≡ false
    go true e = ne_eqb (seen k) 0 (λ f. omega (arith, ap seen (eqb-true k j e)))
    go false e = refl

pub first-taken : (j : ℕ) (ls : List LiveArrival) → found (first_with j ls) ≡ taken j ls
unfolding any
first-taken j [] = refl
first-taken j (l ∷ ls) = go (carries j l) (first-taken j ls)
  where
    go : (b : Bool) → found (first_with j ls) ≡ taken j ls → found (get_elem? (cond b (l ∷ keep (carries j) ls) (keep (carries j) ls)) 0) ≡ (b || taken j ls)
    go true ih = refl
    go false ih = ih

-- ---- whose year must stay

module _ (present : ℕ) where
  -- where it is one of the key
  pub stays-held : (j : ℕ) (seen : ℕ → ℕ) (ls : List LiveArrival) → any (cell_stays present (holds j)) (cells_of seen ls) ≡ one_stays j present ls
  unfolding any
  stays-held j seen [] = refl
  stays-held j seen (l ∷ ls) =
      ap₂ (λ (b c : Bool). (b && must_stay present l.year) || c) (mark-holds seen j l.key) (stays-held j (seen_after seen l.key) ls)

  -- where it is the first of the key
  abbrev pub first_stays : Option LiveArrival → Bool
  first_stays none = false
  first_stays (some l) = must_stay present l.year

  stays-none : (j : ℕ) (seen : ℕ → ℕ) → 0 < seen j → (ls : List LiveArrival) → any (cell_stays present (holds_at j 0)) (cells_of seen ls) ≡ false
  unfolding any
  stays-none j seen z [] = refl
  stays-none j seen z (l ∷ ls) = rw (mark-later seen j z l.key) (stays-none j (seen_after seen l.key) (omega (arith, after-count l.key j seen)) ls)

  pub stays-first : (j : ℕ) (seen : ℕ → ℕ) → seen j ≡ 0 → (ls : List LiveArrival) → any (cell_stays present (holds_at j 0)) (cells_of seen ls) ≡ first_stays (first_with j ls)
  unfolding any
  stays-first j seen z [] = refl
  stays-first j seen z (l ∷ ls) =
      rw (mark-first seen j z l.key)
      (go (carries j l) refl (λ e. stays-none j (seen_after seen l.key) (omega (arith, after-count l.key j seen, ap bit e)) ls)
      (λ e. stays-first j (seen_after seen l.key) (after-count l.key j seen ∙ omega (arith, ap bit e)) ls))
    where
      rest : Bool
      rest = any (cell_stays present (holds_at j 0)) (cells_of (seen_after seen l.key) ls)

      go : (b : Bool) → carries j l ≡ b → (carries j l ≡ true → rest ≡ false) → (carries j l ≡ false → rest ≡ first_stays (first_with j ls)) →
          ((b && must_stay present l.year) || rest) ≡ first_stays (get_elem? (cond b (l ∷ keep (carries j) ls) (keep (carries j) ls)) 0)
      go true e f g = rw (f e) (or-false (must_stay present l.year))
      go false e f g = g e

-- ---- an overwrite

module _ (h : Header) (j : ℕ) (v : Item) (y : ℕ) where
  abbrev over : Cell → Cell
  over c = on_cell (Step.overwritten h j v y) c

  over_none : (seen : ℕ → ℕ) → 0 < seen j → (ls : List LiveArrival) → map over (cells_of seen ls) ≡ cells_of seen ls
  over_none seen z [] = refl
  over_none seen z (l ∷ ls) = rw (mark-later seen j z l.key, over_none (seen_after seen l.key) (omega (arith, after-count l.key j seen)) ls)

  pub cells-overwritten : (seen : ℕ → ℕ) → seen j ≡ 0 → (ls : List LiveArrival) → map over (cells_of seen ls) ≡ cells_of seen (first_overwritten h j v y ls)
  cells-overwritten seen z [] = refl
  cells-overwritten seen z (l ∷ ls) =
      rw (mark-first seen j z l.key)
      (go (carries j l) refl (λ e. over_none (seen_after seen l.key) (omega (arith, after-count l.key j seen, ap bit e)) ls)
      (λ e. cells-overwritten (seen_after seen l.key) (after-count l.key j seen ∙ omega (arith, ap bit e)) ls))
    where
      go : (b : Bool) → carries j l ≡ b → (carries j l ≡ true → map over (cells_of (seen_after seen l.key) ls) ≡ cells_of (seen_after seen l.key) ls) →
          (carries j l ≡ false → map over (cells_of (seen_after seen l.key) ls) ≡ cells_of (seen_after seen l.key) (first_overwritten h j v y ls)) →
          ◌≡◌ {A = List Cell}
          (record { number = l.arrival; slot = new_slot (mark_for seen l.key) (cond b (encoded h (spare_of h l.code) v) l.code) (cond b y l.year) } ∷
          map over (cells_of (seen_after seen l.key) ls))
          (cells_of seen (cond b (coded_anew h v y l ∷ ls) (l ∷ first_overwritten h j v y ls)))
      go true e f g = rw (f e)
      go false e f g = rw (g e)

  pub ids-overwritten : (ls : List LiveArrival) → ids (first_overwritten h j v y ls) ≡ ids ls
  ids-overwritten [] = refl
  ids-overwritten (l ∷ ls) = go (carries j l) (ids-overwritten ls)
    where
      go : (b : Bool) → ids (first_overwritten h j v y ls) ≡ ids ls → ids (cond b (coded_anew h v y l ∷ ls) (l ∷ first_overwritten h j v y ls)) ≡ l.arrival ∷ ids ls
      go true ih = refl
      go false ih = ap (λ (r : List ℕ). l.arrival ∷ r) ih

-- ---- removal

pub cells-removed : (j : ℕ) (c d : ℕ → ℕ) (ls : List LiveArrival) → ((i : ℕ) → (i ≡ j → ⊥) → c i ≡ d i) →
    keep live_cell (map (on_cell (on_mark (removed j))) (cells_of c ls)) ≡ cells_of d (keep (λ l. not (carries j l)) ls)
cells-removed j c d [] e = refl
cells-removed j c d (l ∷ ls) e = go l.key (λ c' d' e'. cells-removed j c' d' ls e')
  where
    go : (o : Option ℕ) → ((c' d' : ℕ → ℕ) → ((i : ℕ) → (i ≡ j → ⊥) → c' i ≡ d' i) → keep live_cell (map (on_cell (on_mark (removed j))) (cells_of c' ls)) ≡
        cells_of d' (keep (λ l. not (carries j l)) ls)) →
        keep live_cell (map (on_cell (on_mark (removed j))) (cells_of c (keyed_as l o ∷ ls))) ≡
        cells_of d (keep (λ l. not (carries j l)) (keyed_as l o ∷ ls))
    go none ih = ap (λ (r : List Cell). marked_as l (unkeyed 0) ∷ r) (ih c d e)
    go (some k) ih = at (eqb k j) refl
      where
        at : (b : Bool) → eqb k j ≡ b →
            keep live_cell (marked_as l (cond b (dead k) (keyed k (c k))) ∷ map (on_cell (on_mark (removed j))) (cells_of (one_more k c) ls)) ≡
            cells_of d (cond (not b) (keyed_as l (some k) ∷ keep (λ l. not (carries j l)) ls) (keep (λ l. not (carries j l)) ls))
        at true f = ih (one_more k c) d (λ i n. more-other k i c (λ g. n (sym g ∙ eqb-true k j f)) ∙ e i n)
        at false f =
            ap₂ (λ (p : ℕ) (r : List Cell). marked_as l (keyed k p) ∷ r) (e k (eqb-false k j f))
            (ih (one_more k c) (one_more k d) (λ i n. more-both k i c d (e i n)))

-- ---- relabelling, where whoever has the new key has the old one

pub cells-relabelled : (j k : ℕ) (c d : ℕ → ℕ) (ls : List LiveArrival) → c j ≡ d k → ((i : ℕ) → (i ≡ j → ⊥) → (i ≡ k → ⊥) → c i ≡ d i) →
    Each (λ l. carries k l ≡ true → carries j l ≡ true) ls → map (on_cell (on_mark (Step.relabelled j k))) (cells_of c ls) ≡ cells_of d (map (renamed j k) ls)
cells-relabelled j k c d [] e f h = refl
cells-relabelled j k c d (l ∷ ls) e f h = go l.key h.0 (λ c' d' e' f'. cells-relabelled j k c' d' ls e' f' h.1)
  where
    go : (o : Option ℕ) → (is_key k o ≡ true → is_key j o ≡ true) →
        ((c' d' : ℕ → ℕ) → c' j ≡ d' k → ((i : ℕ) → (i ≡ j → ⊥) → (i ≡ k → ⊥) → c' i ≡ d' i) →
        map (on_cell (on_mark (Step.relabelled j k))) (cells_of c' ls) ≡ cells_of d' (map (renamed j k) ls)) →
        map (on_cell (on_mark (Step.relabelled j k))) (cells_of c (keyed_as l o ∷ ls)) ≡
        cells_of d (map (renamed j k) (keyed_as l o ∷ ls))
    go none n ih = ap (λ (r : List Cell). marked_as l (unkeyed 0) ∷ r) (ih c d e f)
    go (some i) n ih = at (eqb i j) refl
      where
        at : (b : Bool) → eqb i j ≡ b →
            ◌≡◌ {A = List Cell}
            (marked_as l (cond b (keyed k (c i)) (keyed i (c i))) ∷ map (on_cell (on_mark (Step.relabelled j k))) (cells_of (one_more i c) ls))
            (cell_for d (keyed_as l (cond b (some k) (some i))) ∷ cells_of (seen_after d (cond b (some k) (some i))) (map (renamed j k) ls))
        at true g =
            let ij : i ≡ j = eqb-true i j g in
            ap₂ (λ (p : ℕ) (r : List Cell). marked_as l (keyed k p) ∷ r) (ap c ij ∙ e)
            (ih (one_more i c) (one_more k d) (ap (λ (x : ℕ). one_more x c j) ij ∙ more_same j c ∙ ap suc e ∙ sym (more_same k d))
            (λ x xj xk. more-other i x c (λ ix. xj (sym ix ∙ ij)) ∙ f x xj xk ∙ sym (more-other k x d (λ kx. xk (sym kx)))))
        at false g =
            let ij : i ≡ j → ⊥ = eqb-false i j g in
            let ik : i ≡ k → ⊥ = λ q. subst T (sym (n (eq-eqb i k q)) ∙ g) tt in
            ap₂ (λ (p : ℕ) (r : List Cell). marked_as l (keyed i p) ∷ r) (f i ij ik)
            (ih (one_more i c) (one_more i d) (more-other i j c ij ∙ e ∙ sym (more-other i k d ik)) (λ x xj xk. more-both i x c d (f x xj xk)))

-- ---- one more arrival

abbrev pub all_seen : (ℕ → ℕ) → List LiveArrival → ℕ → ℕ
all_seen seen ls j = count (carries j) ls + seen j

mark-seen : (c d : ℕ → ℕ) (o : Option ℕ) → ((j : ℕ) → c j ≡ d j) → mark_for c o ≡ mark_for d o
mark-seen c d none e = refl
mark-seen c d (some k) e = ap (keyed k) (e k)

pub cells-joined : (seen : ℕ → ℕ) (ls : List LiveArrival) (l : LiveArrival) → cells_of seen (ls ++ (l ∷ [])) ≡ cells_of seen ls ++ (cell_for (all_seen seen ls) l ∷ [])
cells-joined seen [] l =
    ap (λ (m : Mark). marked_as l m ∷ []) (mark-seen seen (all_seen seen []) l.key (λ j. sym (zero-add (seen j))))
cells-joined seen (x ∷ ls) l =
    ap (λ (r : List Cell). cell_for seen x ∷ r)
    (cells-joined (seen_after seen x.key) ls l ∙
    ap (λ (m : Mark). cells_of (seen_after seen x.key) ls ++ (marked_as l m ∷ []))
    (mark-seen (all_seen (seen_after seen x.key) ls) (all_seen seen (x ∷ ls)) l.key (λ j. omega (arith, after-count x.key j seen))))

-- ---- compaction finds the positions as they are

pub cells-rising : (seen : ℕ → ℕ) (ls : List LiveArrival) → rising seen (map (λ c. c.slot) (cells_of seen ls)) ≡ map (λ c. c.slot) (cells_of seen ls)
unfolding rising
cells-rising seen [] = refl
cells-rising seen (l ∷ ls) = go l.key (λ next. cells-rising next ls)
  where
    go : (o : Option ℕ) → ((next : ℕ → ℕ) → rising next (map (λ c. c.slot) (cells_of next ls)) ≡ map (λ c. c.slot) (cells_of next ls)) →
        rising seen (new_slot (mark_for seen o) l.code l.year ∷ map (λ c. c.slot) (cells_of (seen_after seen o) ls)) ≡
        new_slot (mark_for seen o) l.code l.year ∷ map (λ c. c.slot) (cells_of (seen_after seen o) ls)
    go none ih = ap (λ (r : List Slot). new_slot (unkeyed 0) l.code l.year ∷ r) (ih seen)
    go (some k) ih = ap (λ (r : List Slot). new_slot (keyed k (seen k)) l.code l.year ∷ r) (ih (one_more k seen))

-- ---- slots whose live cells are those of live arrivals hold rising positions

marks-part : (u k p : ℕ) → unkeyed u ≡ keyed k p → ⊥
marks-part u k p e = let z : ◌≡◌ {A = ℕ} 0 1 = cc in omega arith

pub cells-held : (seen : ℕ → ℕ) (ws : List ℕ) (ss : List Slot) (ls : List LiveArrival) → length ws ≡ length ss → live_by ws ss ≡ cells_of seen ls → rising seen ss ≡ ss
unfolding rising
cells-held seen ws [] ls n e = refl
cells-held seen [] (s ∷ ss) ls n e = absurd (omega arith)
cells-held seen (a ∷ ws) (s ∷ ss) ls n e = go s.mark e (λ next ls' e'. cells-held next ws ss ls' (omega arith) e')
  where
    go : (m : Mark) → live_by (a ∷ ws) (with_mark s m ∷ ss) ≡ cells_of seen ls →
        ((next : ℕ → ℕ) (ls' : List LiveArrival) → live_by ws ss ≡ cells_of next ls' → rising next ss ≡ ss) →
        rising seen (with_mark s m ∷ ss) ≡ with_mark s m ∷ ss
    go (dead u) e ih = ap (λ (r : List Slot). with_mark s (dead u) ∷ r) (ih seen ls e)
    go (unkeyed u) e ih = ap (λ (r : List Slot). with_mark s (unkeyed u) ∷ r) (at ls e)
      where
        key : (l : LiveArrival) (o : Option ℕ) (ls' : List LiveArrival) → record { number = a; slot = with_mark s (unkeyed u) } ∷ live_by ws ss ≡ cells_of seen (keyed_as l o ∷ ls') →
            rising seen ss ≡ ss
        key l none ls' f = ih seen ls' (tail-eq_of_cons-eq f)
        key l (some k) ls' f = absurd (marks-part u k (seen k) (ap (λ (c : Cell). c.slot.mark) (head-eq_of_cons-eq f)))

        at : (ls' : List LiveArrival) → record { number = a; slot = with_mark s (unkeyed u) } ∷ live_by ws ss ≡ cells_of seen ls' → rising seen ss ≡ ss
        at [] f = absurd (let z : ◌≡◌ {A = ℕ} 0 1 = cc in omega arith)
        at (l ∷ ls') f = key l l.key ls' f
    go (keyed k p) e ih = at ls e
      where
        key : (l : LiveArrival) (o : Option ℕ) (ls' : List LiveArrival) → record { number = a; slot = with_mark s (keyed k p) } ∷ live_by ws ss ≡ cells_of seen (keyed_as l o ∷ ls') →
            with_mark s (keyed k (seen k)) ∷ rising (one_more k seen) ss ≡ with_mark s (keyed k p) ∷ ss
        key l none ls' f = absurd (marks-part 0 k p (sym (ap (λ (c : Cell). c.slot.mark) (head-eq_of_cons-eq f))))
        key l (some j) ls' f =
            let m : keyed k p ≡ keyed j (seen j) = ap (λ (c : Cell). c.slot.mark) (head-eq_of_cons-eq f) in
            let kj : k ≡ j = ap key_word m in
            let q : p ≡ seen k = ap position m ∙ ap seen (sym kj) in
            rw q (ap (λ (r : List Slot). with_mark s (keyed k (seen k)) ∷ r)
            (ih (one_more k seen) ls' (tail-eq_of_cons-eq f ∙ ap (λ (i : ℕ). cells_of (one_more i seen) ls') (sym kj))))

        at : (ls' : List LiveArrival) → record { number = a; slot = with_mark s (keyed k p) } ∷ live_by ws ss ≡ cells_of seen ls' →
            with_mark s (keyed k (seen k)) ∷ rising (one_more k seen) ss ≡ with_mark s (keyed k p) ∷ ss
        at [] f = absurd (let z : ◌≡◌ {A = ℕ} 0 1 = cc in omega arith)
        at (l ∷ ls') f = key l l.key ls' f

-- and the other way round, where the key word of a live slot without a key is 0
pub cells-risen : (seen : ℕ → ℕ) (i : ℕ) (ss : List Slot) → rising seen ss ≡ ss → Each (λ s. unkeyed_word s.mark ≡ 0) ss →
    live_from i ss ≡ cells_of seen (map live_arrival (live_from i ss))
unfolding rising live_from
cells-risen seen i [] e h = refl
cells-risen seen i (s ∷ ss) e h = go s.mark e h.0 (λ next f. cells-risen next (suc i) ss f h.1)
  where
    go : (m : Mark) → rising seen (with_mark s m ∷ ss) ≡ with_mark s m ∷ ss → unkeyed_word m ≡ 0 →
        ((next : ℕ → ℕ) → rising next ss ≡ ss → live_from (suc i) ss ≡ cells_of next (map live_arrival (live_from (suc i) ss))) →
        live_from i (with_mark s m ∷ ss) ≡ cells_of seen (map live_arrival (live_from i (with_mark s m ∷ ss)))
    go (dead u) e z ih = ih seen (tail-eq_of_cons-eq e)
    go (unkeyed u) e z ih =
        ap₂ (λ (w : ℕ) (r : List Cell). record { number = i; slot = with_mark s (unkeyed w) } ∷ r) z (ih seen (tail-eq_of_cons-eq e))
    go (keyed k p) e z ih =
        ap₂ (λ (q : ℕ) (r : List Cell). record { number = i; slot = with_mark s (keyed k q) } ∷ r) (sym (ap (λ (x : Slot). position x.mark) (head-eq_of_cons-eq e)))
        (ih (one_more k seen) (tail-eq_of_cons-eq e))
