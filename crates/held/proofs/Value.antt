-- What scanning finds on a record and arrays that fit: what the index asks of its value.
use mathlib.Core.Path.{◌≡◌, refl, sym, ap, ◌∙◌}
use mathlib.Core.Bool.{Bool, true, false, not, cond, ◌&&◌, ◌||◌}
use mathlib.Core.List.{List, [], ◌∷◌}
use mathlib.Core.Option.{none, some}
use Prim.Native.Nat.{ℕ, zero, suc, ◌≤◌, ◌<◌}
use native.Mathlib.Omega.{arith}
use native.Mathlib.Decide.{dec_lt}
use lib.ListN.{length, get_or, get_elem?}
use lib.Dec.{ltb, eqb}
use borrow.Author.Tests.{eqb-true, lt-ltb}
use Rattle.lists.specs.Lists.{tab, below}
use Rattle.lists.specs.Keep.{bit, keep, count, Each}
use Rattle.lists.proofs.Entries.{tab-in, tab-past}
use Rattle.lists.proofs.Keep.{length-keep, count_map, count_same, each_keep, each-kept, keep_same}
use Rattle.lists.proofs.Front.{map-tab, each-tab, tab-each}
use Rattle.index.specs.declared.Index.{Index}
use Rattle.index.specs.Arrays.{Arrays}
use Rattle.index.specs.State.{Mark, dead, unkeyed, keyed, Slot, is_live, header_of, mark_of, slot_at, state_of, with_mark}
use Rattle.index.specs.Fit.{row_at, fit}
use Rattle.index.specs.Step.{live_from, number_where, holds, holds_at, held_by, is_held, slot_holding, key_of_mark, key_answer, position_of}
use Rattle.index.specs.Sound.{marks}
use Rattle.index.proofs.Fits.{fitting, fit-sound}
use Rattle.positions.proofs.Slots.{count_at, once-count}
use Rattle.slot_keys.specs.Has.{key_at, slot_has}
use Rattle.held.specs.Held.{held_count, slot_holds, held_slot}
use Rattle.held.proofs.Live.{first_in, live-count, live-first}

-- ---- tests

both : (b c : Bool) → cond b c false ≡ (b && c)
both true c = refl
both false c = refl

all_three : (b c d : Bool) → cond b (c && d) false ≡ ((b && c) && d)
all_three true c d = refl
all_three false c d = refl

bit-low : (b : Bool) → bit b ≤ 1
bit-low true = omega arith
bit-low false = omega arith

cond_both : {B : Type 0} (b c : Bool) (u v : B) → cond b (cond c u v) v ≡ cond (b && c) u v
cond_both true c u v = refl
cond_both false c u v = refl

-- ---- the first of some numbers below n

module _ (n : ℕ) where
  first_some : (is : List ℕ) → get_or is 0 n < n → first_in is ≡ some (get_or is 0 n)
  first_some [] l = absurd (omega arith)
  first_some (i ∷ is) l = refl

  first-none : (is : List ℕ) → Each (λ i. i < n) is → n ≤ get_or is 0 n → first_in is ≡ none
  first-none [] h l = refl
  first-none (i ∷ is) h l = absurd (omega (arith, h.0))

  first-end : (is : List ℕ) → Each (λ i. i < n) is → n ≤ get_or is 0 n → get_or is 0 n ≡ n
  first-end [] h l = refl
  first-end (i ∷ is) h l = absurd (omega (arith, h.0))

  first-low : (is : List ℕ) → Each (λ i. i < n) is → 0 < length is → get_or is 0 n < n
  first-low [] h l = absurd (omega arith)
  first-low (i ∷ is) h l = h.0

  first_passes : (P : ℕ → Type 0) (is : List ℕ) → Each P is → get_or is 0 n < n → P (get_or is 0 n)
  first_passes P [] h l = absurd (omega arith)
  first_passes P (i ∷ is) h l = h.0

-- ---- marks

-- what no dead slot passes, only live ones pass
live-passes : (g : Mark → Bool) → ((u : ℕ) → g (dead u) ≡ false) → (m : Mark) → g m ≡ true → is_live m ≡ true
live-passes g d (dead u) e = sym (d u) ∙ e
live-passes g d (unkeyed u) e = refl
live-passes g d (keyed k p) e = refl

marks-count : (g : Mark → Bool) (f : ℕ → Slot) (n : ℕ) → count g (marks (tab f n)) ≡ count (λ i. g (f i).mark) (below n)
marks-count g f n =
    count_map (λ (s : Slot). s.mark) g (tab f n) ∙ ap (count (λ (s : Slot). g s.mark)) (sym (map-tab f (λ i. i) n))
    ∙ count_map f (λ (s : Slot). g s.mark) (below n)

module _ (x : Index) (a : Arrays) (e : fit x a ≡ true) where
  -- ---- one slot in use

  module _ (i : ℕ) (l : i < x.n) where
    -- a keyed slot is live
    pub keyed-live : get_or a.keyed i false ≡ true → get_or a.alive i 0 ≡ 1
    unfolding row_at
    keyed-live k =
        let t = tab-each (λ r. (not r.keyed || eqb r.alive 1) ≡ true) (row_at a) x.n (fitting x a e).keyed i l in
        eqb-true (get_or a.alive i 0) 1 (rw k at t)

    -- what is asked of its mark, where the answer is the same for all marks without a key
    pub mark-part : {B : Type 0} (g : Mark → B) (d : B) → ((u : ℕ) → g (dead u) ≡ d) → ((u : ℕ) → g (unkeyed u) ≡ d) →
        g (slot_at (header_of x) a i).mark ≡ cond (get_or a.keyed i false) (g (keyed (get_or a.keys i 0) (get_or a.held i 0))) d
    unfolding slot_at
    mark-part {B = B} g d h k = go (get_or a.alive i 0) (get_or a.keyed i false) (get_or a.keys i 0) (get_or a.held i 0) keyed-live
      where
        go : (m : ℕ) (on : Bool) (word p : ℕ) → (on ≡ true → m ≡ 1) → g (mark_of m on word p) ≡ cond on (g (keyed word p)) d
        go zero true word p f = absurd (omega (arith, f refl))
        go zero false word p f = h word
        go (suc m) true word p f = refl
        go (suc m) false word p f = k word

    pub mark-holds : (j : ℕ) → holds j (slot_at (header_of x) a i).mark ≡ slot_has a.keys a.keyed j i
    mark-holds j = mark-part (holds j) false (λ u. refl) (λ u. refl) ∙ both (get_or a.keyed i false) (eqb (get_or a.keys i 0) j)

    pub mark-holds_at : (j p : ℕ) → holds_at j p (slot_at (header_of x) a i).mark ≡ slot_holds a.keys a.keyed a.held j p i
    mark-holds_at j p =
        mark-part (holds_at j p) false (λ u. refl) (λ u. refl) ∙ all_three (get_or a.keyed i false) (eqb (get_or a.keys i 0) j) (eqb (get_or a.held i 0) p)

    pub slot-in : get_elem? (state_of x a).slots i ≡ some (slot_at (header_of x) a i)
    unfolding state_of
    slot-in = tab-in (slot_at (header_of x) a) x.n i l

    pub key_in : key_answer (get_elem? (state_of x a).slots i) ≡ key_at a.keys a.keyed i
    unfolding key_at
    key_in = ap key_answer slot-in ∙ mark-part key_of_mark none (λ u. refl) (λ u. refl)

    pub position_in : (j : ℕ) → position_of j (get_elem? (state_of x a).slots i) ≡ cond (slot_has a.keys a.keyed j i) (some (get_or a.held i 0)) none
    position_in j =
        ap (position_of j) slot-in
        ∙ mark-part (λ m. position_of j (some (with_mark (slot_at (header_of x) a i) m))) none (λ u. refl) (λ u. refl)
        ∙ cond_both (get_or a.keyed i false) (eqb (get_or a.keys i 0) j) (some (get_or a.held i 0)) none

  -- a slot past those in use
  pub slot-past : (i : ℕ) → x.n ≤ i → get_elem? (state_of x a).slots i ≡ none
  unfolding state_of
  slot-past i l = tab-past (slot_at (header_of x) a) x.n i l

  -- ---- how many slots a key has

  abbrev mark : ℕ → Mark
  mark i = (slot_at (header_of x) a i).mark

  -- a question of marks that no dead one passes, and the same question of the arrays
  module _ (g : Mark → Bool) (d : (u : ℕ) → g (dead u) ≡ false) (q : ℕ → Bool) (same : (i : ℕ) → i < x.n → g (mark i) ≡ q i) where
    each_same : Each (λ i. g (mark i) ≡ q i) (below x.n)
    each_same = each-tab (λ i. g (mark i) ≡ q i) (λ i. i) x.n same

    value-marks : count g (marks (state_of x a).slots) ≡ count q (below x.n)
    unfolding state_of
    value-marks = marks-count g (slot_at (header_of x) a) x.n ∙ count_same (λ i. g (mark i)) q (below x.n) each_same

    value-count : count (λ c. g c.slot.mark) (live_from 0 (state_of x a).slots) ≡ count q (below x.n)
    unfolding state_of
    value-count =
        live-count (slot_at (header_of x) a) x.n (λ c. g c.slot.mark) (λ i. live-passes g d (mark i))
        ∙ count_same (λ i. g (mark i)) q (below x.n) each_same

    value-first : number_where (λ c. g c.slot.mark) (live_from 0 (state_of x a).slots) ≡ first_in (keep q (below x.n))
    unfolding state_of
    value-first =
        live-first (slot_at (header_of x) a) x.n (λ c. g c.slot.mark) (λ i. live-passes g d (mark i))
        ∙ ap first_in (keep_same (λ i. g (mark i)) q (below x.n) each_same)

  module _ (j : ℕ) where
    abbrev has : ℕ → Bool
    has = slot_has a.keys a.keyed j

    pub held_by_lem : held_by j (live_from 0 (state_of x a).slots) ≡ held_count a.keys a.keyed x.n j
    held_by_lem = value-count (holds j) (λ u. refl) has (λ i l. mark-holds i l j)

    pub is-held : is_held j (live_from 0 (state_of x a).slots) ≡ ltb 0 (held_count a.keys a.keyed x.n j)
    is-held = ap (ltb 0) held_by_lem

  -- ---- the slot that holds a position of a key

  module _ (j p : ℕ) where
    abbrev passes : ℕ → Bool
    passes = slot_holds a.keys a.keyed a.held j p

    abbrev found : ℕ
    found = held_slot a.keys a.keyed a.held x.n j p

    abbrev kept : List ℕ
    kept = keep passes (below x.n)

    all-low : Each (λ i. i < x.n) kept
    all-low = each_keep (λ i. i < x.n) passes (below x.n) (each-tab (λ i. i < x.n) (λ i. i) x.n (λ i l. l))

    holding : slot_holding j p (live_from 0 (state_of x a).slots) ≡ first_in kept
    holding = value-first (holds_at j p) (λ u. refl) passes (λ i l. mark-holds_at i l j p)

    pub slot-found : found < x.n → slot_holding j p (live_from 0 (state_of x a).slots) ≡ some found
    slot-found l = holding ∙ first_some x.n kept l

    pub slot-missing : x.n ≤ found → slot_holding j p (live_from 0 (state_of x a).slots) ≡ none
    slot-missing l = holding ∙ first-none x.n kept all-low l

    pub missing-end : x.n ≤ found → found ≡ x.n
    missing-end = first-end x.n kept all-low

    pub found-holds : found < x.n → passes found ≡ true
    found-holds = first_passes x.n (λ i. passes i ≡ true) kept (each-kept (λ i. passes i ≡ true) passes (below x.n) (λ i t. t))

    -- it is held once where it is below the number of the key's slots, and else not
    pub held-once : count passes (below x.n) ≡ bit (ltb p (held_count a.keys a.keyed x.n j))
    held-once =
        sym (value-marks (holds_at j p) (λ u. refl) passes (λ i l. mark-holds_at i l j p)) ∙ (fit-sound x a e).positions j p
        ∙ ap (λ (t : ℕ). bit (ltb p t)) (value-marks (holds j) (λ u. refl) (has j) (λ i l. mark-holds i l j))

    pub position-found : p < held_count a.keys a.keyed x.n j → found < x.n
    position-found l =
        first-low x.n kept all-low
        (omega (arith, length-keep passes (below x.n), held-once, ap bit (lt-ltb p (held_count a.keys a.keyed x.n j) l)))

    -- no other slot holds it
    pub only-slot : (i : ℕ) → i < x.n → passes i ≡ true → found ≡ i
    only-slot i l t =
        let one : 0 < length kept = omega (arith, length-keep passes (below x.n), count_at passes (λ i. i) x.n i l t) in
        let low : found < x.n = first-low x.n kept all-low one in
        let few : count passes (below x.n) ≤ 1 = omega (arith, held-once, bit-low (ltb p (held_count a.keys a.keyed x.n j))) in
        elim (dec_lt found i) [
          | yes m ↦ absurd (once-count passes (λ i. i) x.n found i few m l (found-holds low) t)
          | no m ↦ elim (dec_lt i found) [
            | yes k ↦ absurd (once-count passes (λ i. i) x.n i found few k low t (found-holds low))
            | no k ↦ omega arith
          ]
        ]
