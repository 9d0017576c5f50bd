-- The numbers below n that pass a test, as the library's method finds them, and as the first n places of the arrays give them.
use mathlib.Core.Path.{◌≡◌, refl, sym, ap, ◌∙◌}
use mathlib.Core.Bool.{Bool, true, false, cond}
use mathlib.Core.List.{List, [], ◌∷◌}
use Prim.Native.Nat.{ℕ, ◌+◌, min, ◌≤◌, ◌<◌}
use native.Mathlib.Numerals.{add-one}
use native.Mathlib.Omega.{arith}
use native.Mathlib.Decide.{dec_lt}
use lib.ListN.{length, get_or, take, get_or-eq_default}
use lib.Seq.{get_or-take}
use Rattle.std.specs.Prelude.{find, unwrap_or, Some}
use Rattle.std.specs.List.{range_with_len}
use Rattle.lists.specs.Lists.{below}
use Rattle.lists.specs.Keep.{bit, keep, count}
use Rattle.lists.proofs.Laws.{length-tab}
use Rattle.lists.proofs.Keep.{count-append, count-length, count_same, keep_same}
use Rattle.lists.proofs.Front.{each-tab, keep-past, count_past}
use Rattle.lists.proofs.Ranges.{range-below}
use Rattle.slot_keys.specs.Has.{slot_has}
use Rattle.held.specs.Held.{held_count, slot_holds, held_slot}

-- ---- the library's method

module _ {X : Type 0} (p : X → Bool) where
  found : (xs : List X) (d : X) → unwrap_or (find p xs) d ≡ get_or (keep p xs) 0 d
  found [] d = refl
  found (x ∷ xs) d = go (p x) (found xs d)
    where
      go : (b : Bool) → unwrap_or (find p xs) d ≡ get_or (keep p xs) 0 d → unwrap_or (cond b (Some x) (find p xs)) d ≡ get_or (cond b (x ∷ keep p xs) (keep p xs)) 0 d
      go true e = refl
      go false e = e

module _ (p : ℕ → Bool) (n : ℕ) where
  find-below : (d : ℕ) → unwrap_or (find p (range_with_len 0 n)) d ≡ get_or (keep p (below n)) 0 d
  find-below d = rw (range-below n) (found p (below n) d)

-- ---- one number more

module _ (p : ℕ → Bool) (i : ℕ) where
  pub count-more : count p (below (i + 1)) ≡ count p (below i) + bit (p i)
  count-more = rw (add-one i) (omega (arith, count-append p (below i) (i ∷ [])))

  pub count-few : count p (below i) ≤ i
  count-few = omega (arith, count-length p (below i), length-tab {A = ℕ} (λ k. k) i)

-- ---- two tests that agree below n

module _ (keys : List ℕ) (keyed : List Bool) (n key : ℕ) where
  front-has : (i : ℕ) → i < n → slot_has (take n keys) (take n keyed) key i ≡ slot_has keys keyed key i
  front-has i l = rw (get_or-take n keyed i false l, get_or-take n keys i 0 l)

  front-count : held_count (take n keys) (take n keyed) n key ≡ held_count keys keyed n key
  front-count = count_same _ _ (below n) (each-tab (λ i. slot_has (take n keys) (take n keyed) key i ≡ slot_has keys keyed key i) (λ i. i) n front-has)

  module _ (held : List ℕ) (position : ℕ) where
    front-holds : (i : ℕ) → i < n → slot_holds (take n keys) (take n keyed) (take n held) key position i ≡ slot_holds keys keyed held key position i
    front-holds i l = rw (get_or-take n keyed i false l, get_or-take n keys i 0 l, get_or-take n held i 0 l)

    front-kept : keep (slot_holds (take n keys) (take n keyed) (take n held) key position) (below n) ≡ keep (slot_holds keys keyed held key position) (below n)
    front-kept =
        keep_same _ _ (below n) (each-tab (λ i. slot_holds (take n keys) (take n keyed) (take n held) key position i ≡ slot_holds keys keyed held key position i) (λ i. i) n front-holds)

-- ---- past the end of `keyed` no slot has a key

module _ (keys : List ℕ) (keyed : List Bool) (key n end : ℕ) (e : end ≡ min n (length keyed)) where
  past-has : end < n → (j : ℕ) → end ≤ j → slot_has keys keyed key j ≡ false
  past-has l j m =
      let beyond : length keyed ≤ j = omega (arith, e, l, m) in
      rw (get_or-eq_default keyed false beyond)

  pub count-within : held_count keys keyed end key ≡ held_count keys keyed n key
  count-within =
      elim (dec_lt end n) [
        | yes l ↦ sym (count_past (slot_has keys keyed key) end (past-has l) n (omega (arith, l)))
        | no l ↦ let same : end ≡ n = omega (arith, e, l) in ap (λ (m : ℕ). held_count keys keyed m key) same
      ]

  pub count-parts : held_count (take end keys) (take end keyed) end key ≡ held_count keys keyed n key
  count-parts = front-count keys keyed end key ∙ count-within

  module _ (held : List ℕ) (position : ℕ) where
    pub slot-within : unwrap_or (find (slot_holds keys keyed held key position) (range_with_len 0 end)) n ≡ held_slot keys keyed held n key position
    slot-within =
        find-below (slot_holds keys keyed held key position) end n
        ∙ elim (dec_lt end n) [
          | yes l ↦ ap (λ (is : List ℕ). get_or is 0 n) (sym (keep-past (slot_holds keys keyed held key position) end (λ j m. rw (past-has l j m)) n (omega (arith, l))))
          | no l ↦ let same : end ≡ n = omega (arith, e, l) in ap (λ (m : ℕ). get_or (keep (slot_holds keys keyed held key position) (below m)) 0 n) same
        ]

    pub slot-parts : unwrap_or (find (slot_holds (take end keys) (take end keyed) (take end held) key position) (range_with_len 0 end)) n ≡ held_slot keys keyed held n key position
    slot-parts =
        find-below (slot_holds (take end keys) (take end keyed) (take end held) key position) end n
        ∙ ap (λ (is : List ℕ). get_or is 0 n) (front-kept keys keyed end key held position) ∙ sym (find-below (slot_holds keys keyed held key position) end n)
        ∙ slot-within
