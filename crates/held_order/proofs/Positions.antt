-- The positions of slots by the last lower slot that has their key, and what the loop over the slots holds.
use mathlib.Core.Path.{◌≡◌, refl, sym, ap, ◌∙◌}
use mathlib.Core.Bool.{Bool, true, false, cond}
use mathlib.Core.List.{List}
use Prim.Native.Nat.{ℕ, zero, suc, ◌+◌, ◌-◌, ◌≤◌, ◌<◌}
use native.Mathlib.Numerals.{add-one}
use native.Mathlib.Decide.{ℕ_discrete}
use native.Mathlib.Omega.{arith}
use lib.ListN.{length, get_or, set, length-set}
use lib.Seq.{get_or-set_same, get_or-set_other}
use lib.Dec.{eqb}
use borrow.Author.Tests.{eqb-true}
use Rattle.lists.specs.Lists.{tab, below}
use Rattle.lists.proofs.Laws.{get_d_default, length-tab, get_or-tab, over-all}
use Rattle.lists.proofs.Front.{tab-is}
use Rattle.lists.proofs.Keep.{either}
use Rattle.lists.proofs.Tests.{and_left, and_right}
use Rattle.slot_keys.specs.Has.{slot_has}
use Rattle.held.specs.Held.{held_count}
use Rattle.previous.specs.Previous.{last_below, previous, linked}
use Rattle.previous.proofs.Previous.{last-low, last-passes, count_none, count-last, last-same, linked-all}
use Rattle.held_order.specs.Restored.{rising_position}
use Rattle.held_order.specs.Placed.{after_entry, Placed}

-- ---- the entries of slots

module _ (keys : List ℕ) (keyed : List Bool) where
  -- the entry of the last lower slot with the key of the slot; 0 without a key
  abbrev slot_entry : ℕ → ℕ
  slot_entry i = cond (get_or keyed i false) (last_below (slot_has keys keyed (get_or keys i 0)) i) 0

  numbered-entry : (n i : ℕ) → i < n → previous keys keyed (below n) i ≡ slot_entry i
  unfolding previous
  numbered-entry n i l =
      rw (
        get_or-tab (λ (j : ℕ). j) n i 0 l,
        last-same (λ j. slot_has keys keyed (get_or keys i 0) (get_or (below n) j 0)) (slot_has keys keyed (get_or keys i 0)) i (λ j k. rw (get_or-tab (λ (m : ℕ). m) n j 0 (omega arith))),
      )

  -- ---- the position of a slot

  module _ (held : List ℕ) (i : ℕ) (lower : (j : ℕ) → j < i → get_or held j 0 ≡ rising_position keys keyed j) where
    abbrev key : ℕ
    key = get_or keys i 0

    counted : (entry : ℕ) → last_below (slot_has keys keyed key) i ≡ entry → after_entry held entry ≡ held_count keys keyed i key
    counted zero e = sym (count_none (slot_has keys keyed key) i e)
    counted (suc j) e =
        let h = last-passes (slot_has keys keyed key) i j e in
        let on : get_or keyed j false ≡ true = and_left (get_or keyed j false) (eqb (get_or keys j 0) key) h in
        let word : get_or keys j 0 ≡ key = eqb-true (get_or keys j 0) key (and_right (get_or keyed j false) (eqb (get_or keys j 0) key) h) in
        let p : get_or held j 0 ≡ held_count keys keyed j key = lower j (omega (arith, last-low (slot_has keys keyed key) i)) ∙ rw (on, word) in
        ap suc p ∙ sym (count-last (slot_has keys keyed key) i j e)

    position : after_entry held (slot_entry i) ≡ rising_position keys keyed i
    position = go (get_or keyed i false)
      where
        go : (b : Bool) → after_entry held (cond b (last_below (slot_has keys keyed key) i) 0) ≡ cond b (held_count keys keyed i key) 0
        go true = counted (last_below (slot_has keys keyed key) i) refl
        go false = refl

  module _ (held before : List ℕ) (n : ℕ) (entries : (i : ℕ) → i < n → get_or before i 0 ≡ slot_entry i) (placed : Placed before held n) where
    rises-below : (m : ℕ) → m ≤ n → (j : ℕ) → j < m → get_or held j 0 ≡ rising_position keys keyed j
    rises-below zero l j k = absurd (omega arith)
    rises-below (suc m) l j k = go (rises-below m (omega arith)) (ℕ_discrete j m)
      where
        go : ((i : ℕ) → i < m → get_or held i 0 ≡ rising_position keys keyed i) → Dec (j ≡ m) → get_or held j 0 ≡ rising_position keys keyed j
        go ih (yes e) = rw e (placed m l ∙ ap (after_entry held) (entries m l) ∙ position held m ih)
        go ih (no e) = ih j (let s : j < m = omega arith in s)

    rises : length held ≡ n → held ≡ tab (rising_position keys keyed) n
    rises long = sym (rw (← long) (tab-is (rising_position keys keyed) held (λ j d l. sym (get_d_default held j d 0 l ∙ rises-below n (omega arith) j (rw long at l)))))

  -- what linking leaves of the slots as a list
  module _ (n : ℕ) (few : n ≤ 65536) (slots before₀ before : List ℕ) (all : slots ≡ below n) (long : length before₀ ≡ n) (e : before ≡ linked keys keyed slots before₀) where
    entry_of : (i : ℕ) → i < n → get_or before i 0 ≡ slot_entry i
    entry_of i l =
        let m : length (below n) ≡ n = length-tab (λ (j : ℕ). j) n in
        rw (
          e,
          all,
          linked-all keys keyed (below n) before₀ (omega arith) (omega arith),
          m,
          over-all (tab (previous keys keyed (below n)) n) before₀ (length-tab (previous keys keyed (below n)) n ∙ sym long),
        )
        (get_or-tab (previous keys keyed (below n)) n i 0 l ∙ numbered-entry n i l)

    as_many : length slots ≡ n
    as_many = ap length all ∙ length-tab (λ (j : ℕ). j) n

    pub entry-low : (i : ℕ) → i < length slots → get_or before i 0 ≤ i
    entry-low i l = rw (entry_of i (omega (arith, as_many))) (either (λ (r : ℕ). r ≤ i) (get_or keyed i false) (last-low (slot_has keys keyed (get_or keys i 0)) i) (omega arith))

    pub restored-all : (held : List ℕ) → Placed before held (length slots) → length held ≡ length slots → held ≡ tab (rising_position keys keyed) n
    restored-all held placed same = rises held before n entry_of (rw as_many at placed) (same ∙ as_many)

-- ---- the loop

-- an entry that is not 0 is that of the slot before
pub after-slot : (held : List ℕ) (entry : ℕ) → (entry ≡ 0 → ⊥) → get_or held (entry - 1) 0 + 1 ≡ after_entry held entry
after-slot held zero some = absurd (some refl)
after-slot held (suc j) some = let z : suc j - 1 ≡ j = omega arith in rw z (add-one (get_or held j 0))

-- the first i slots hold their positions
pub record Placing (before held₀ held : List ℕ) (i : ℕ) : Type 0 where
  pub few : i ≤ length held₀
  pub placed : Placed before held i
  pub low : (j : ℕ) → j < i → get_or held j 0 ≤ j
  pub same : length held ≡ length held₀

pub placing-none : (before held : List ℕ) → Placing before held held 0
placing-none before held = record { few = omega arith; placed = λ j l. absurd (omega arith); low = λ j l. absurd (omega arith); same = refl }

-- a position is not read after it is written
after-set : (held : List ℕ) (i v entry : ℕ) → entry ≤ i → after_entry (set held i v) entry ≡ after_entry held entry
after-set held i v zero l = refl
after-set held i v (suc j) l = ap suc (get_or-set_other held i j v 0 (λ e. omega arith))

module _ {before held₀ held : List ℕ} {i : ℕ} (m : Placing before held₀ held i) (here : i < length held) (lows : (j : ℕ) → j ≤ i → get_or before j 0 ≤ j) where
  abbrev next : ℕ
  next = after_entry held (get_or before i 0)

  next_low : next ≤ i
  next_low = go (get_or before i 0) (lows i (omega arith))
    where
      go : (entry : ℕ) → entry ≤ i → after_entry held entry ≤ i
      go zero l = omega arith
      go (suc j) l = omega (arith, m.low j l)

  pub placing-more : Placing before held₀ (set held i next) (i + 1)
  placing-more =
      record {
        few = omega (arith, m.same);
        placed = λ j l. put j l (ℕ_discrete j i);
        low = λ j l. low j l (ℕ_discrete j i);
        same = length-set held i next ∙ m.same;
      }
    where
      put : (j : ℕ) → j < i + 1 → Dec (j ≡ i) → get_or (set held i next) j 0 ≡ after_entry (set held i next) (get_or before j 0)
      put j l (yes e) = rw e (get_or-set_same held i next 0 here ∙ sym (after-set held i next (get_or before i 0) (lows i (omega arith))))
      put j l (no e) =
          let k : j < i = omega arith in
          get_or-set_other held i j next 0 e ∙ m.placed j k ∙ sym (after-set held i next (get_or before j 0) (omega (arith, lows j (omega arith))))

      low : (j : ℕ) → j < i + 1 → Dec (j ≡ i) → get_or (set held i next) j 0 ≤ j
      low j l (yes e) = rw (e, get_or-set_same held i next 0 here) next_low
      low j l (no e) = rw (get_or-set_other held i j next 0 e) (m.low j (let k : j < i = omega arith in k))
