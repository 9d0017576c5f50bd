-- Rising held order changes positions alone, and a slot's position is how many of the slots before it have its key.
use mathlib.Core.Path.{◌≡◌, refl, sym, ap, ap₂, ◌∙◌}
use mathlib.Core.Bool.{Bool, true, false, cond, ◌&&◌}
use mathlib.Core.List.{List, [], ◌∷◌, map}
use Prim.Native.Nat.{ℕ, zero, suc, ◌+◌, ◌≤◌, ◌<◌}
use native.Mathlib.Nat.{zero-add, add-zero}
use native.Mathlib.Numerals.{add-one}
use native.Mathlib.Omega.{arith}
use lib.ListN.{length, get_or, take, length-map}
use lib.Dec.{eqb}
use Rattle.lists.specs.Lists.{tab, below}
use Rattle.lists.specs.Keep.{bit, count}
use Rattle.lists.proofs.Keep.{count-append, count_next}
use Rattle.lists.proofs.Front.{tab-map}
use Rattle.index.specs.State.{Mark, dead, unkeyed, keyed, Slot, has_key, key_word, position, with_mark}
use Rattle.index.specs.Step.{holds, one_more, rising}
use Rattle.slot_keys.specs.Has.{slot_has}
use Rattle.held.specs.Held.{held_count}
use Rattle.held_order.specs.Restored.{rising_position}

-- what doesn't look at positions stays
pub rising-map : {B : Type 0} (g : Slot → B) → ((k p q : ℕ) (s : Slot) → g (with_mark s (keyed k p)) ≡ g (with_mark s (keyed k q))) →
    (seen : ℕ → ℕ) (ss : List Slot) → map g (rising seen ss) ≡ map g ss
unfolding rising
rising-map g same seen [] = refl
rising-map g same seen (s ∷ ss) = go s.mark (λ next. rising-map g same next ss)
  where
    go : (m : Mark) → ((next : ℕ → ℕ) → map g (rising next ss) ≡ map g ss) → map g (rising seen (with_mark s m ∷ ss)) ≡ g (with_mark s m) ∷ map g ss
    go (dead u) ih = rw (ih seen)
    go (unkeyed u) ih = rw (ih seen)
    go (keyed k p) ih = rw (ih (one_more k seen), same k (seen k) p s)

pub rising-length : (seen : ℕ → ℕ) (ss : List Slot) → length (rising seen ss) ≡ length ss
rising-length seen ss =
    sym (length-map (rising seen ss) (λ s. s.code)) ∙ ap length (rising-map (λ s. s.code) (λ k p q c. refl) seen ss) ∙ length-map ss (λ s. s.code)

abbrev slot_holds : ℕ → Slot → Bool
slot_holds k s = holds k s.mark

rising-at : (seen : ℕ → ℕ) (ss : List Slot) (i : ℕ) (d : Slot) → i < length ss →
    position (get_or (rising seen ss) i d).mark ≡
    cond (has_key (get_or ss i d).mark) (seen (key_word (get_or ss i d).mark) + count (slot_holds (key_word (get_or ss i d).mark)) (take i ss)) 0
unfolding rising
rising-at seen [] i d l = absurd (omega arith)
rising-at seen (s ∷ ss) zero d l = go s.mark
  where
    go : (m : Mark) → position (get_or (rising seen (with_mark s m ∷ ss)) 0 d).mark ≡ cond (has_key m) (seen (key_word m) + 0) 0
    go (dead u) = refl
    go (unkeyed u) = refl
    go (keyed k p) = sym (add-zero (seen k))
rising-at seen (s ∷ ss) (suc i) d l = go s.mark (λ next. rising-at next ss i d (omega arith))
  where
    k : ℕ
    k = key_word (get_or ss i d).mark

    n : ℕ
    n = count (slot_holds k) (take i ss)

    on : Bool
    on = has_key (get_or ss i d).mark

    more : (j : ℕ) (b : Bool) → cond b (suc j) j + n ≡ j + (bit b + n)
    more j true = omega arith
    more j false = omega arith

    go : (m : Mark) → ((next : ℕ → ℕ) → position (get_or (rising next ss) i d).mark ≡ cond on (next k + n) 0) →
        position (get_or (rising seen (with_mark s m ∷ ss)) (suc i) d).mark ≡ cond on (seen k + (bit (holds k m) + n)) 0
    go (dead u) ih = ih seen ∙ ap (λ (p : ℕ). cond on (seen k + p) 0) (sym (zero-add n))
    go (unkeyed u) ih = ih seen ∙ ap (λ (p : ℕ). cond on (seen k + p) 0) (sym (zero-add n))
    go (keyed j p) ih = ih (one_more j seen) ∙ ap (λ (q : ℕ). cond on q 0) (more (seen k) (eqb j k))

-- slots whose keys are the first entries of arrays
module _ (ss : List Slot) (keys : List ℕ) (on : List Bool)
    (words : (i : ℕ) (d : Slot) → i < length ss → get_or keys i 0 ≡ key_word (get_or ss i d).mark)
    (marks : (i : ℕ) (d : Slot) → i < length ss → get_or on i false ≡ has_key (get_or ss i d).mark) where
  has : (k : ℕ) (m : Mark) → (has_key m && eqb (key_word m) k) ≡ holds k m
  has k (dead u) = refl
  has k (unkeyed u) = refl
  has k (keyed j p) = refl

  has-at : (k i : ℕ) (d : Slot) → i < length ss → slot_has keys on k i ≡ slot_holds k (get_or ss i d)
  has-at k i d l = ap₂ (λ (b : Bool) (j : ℕ). b && eqb j k) (marks i d l) (words i d l) ∙ has k (get_or ss i d).mark

  held-before : (k i : ℕ) (d : Slot) → i ≤ length ss → held_count keys on i k ≡ count (slot_holds k) (take i ss)
  held-before k zero d l = refl
  held-before k (suc i) d l =
      count-append (slot_has keys on k) (below i) (i ∷ []) ∙
      omega (arith, held-before k i d (omega arith), ap bit (has-at k i d l), rw (add-one i) at (count_next (slot_holds k) i ss d l))

  pub rising-positions : map (λ s. position s.mark) (rising (λ k. 0) ss) ≡ tab (rising_position keys on) (length ss)
  rising-positions =
      sym (tab-map (λ s. position s.mark) (rising_position keys on) (rising (λ k. 0) ss) (λ i d l. at i d (rw (rising-length (λ k. 0) ss) at l)))
      ∙ ap (tab (rising_position keys on)) (rising-length (λ k. 0) ss)
    where
      at : (i : ℕ) (d : Slot) → i < length ss → rising_position keys on i ≡ position (get_or (rising (λ k. 0) ss) i d).mark
      at i d l =
          rw (words i d l, marks i d l, held-before (key_word (get_or ss i d).mark) i d (omega arith))
          (sym (rising-at (λ k. 0) ss i d l ∙ ap (λ (p : ℕ). cond (has_key (get_or ss i d).mark) p 0) (zero-add (count (slot_holds (key_word (get_or ss i d).mark)) (take i ss)))))
