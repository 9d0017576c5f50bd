-- What is gathered is what is listed.
use mathlib.Core.Path.{◌≡◌, ap, sym, ◌∙◌}
use mathlib.Core.Bool.{Bool, true, ◌&&◌, and-true}
use mathlib.Core.List.{List, ◌++◌, map, map-append}
use mathlib.Core.Logic.{◌⊎◌, inl, inr}
use Prim.Native.Nat.{ℕ, suc, ◌-◌, min, max, ◌≤◌, ◌<◌}
use native.Mathlib.Nat.{zero-add}
use native.Mathlib.Omega.{arith}
use lib.ListN.{length, take, drop, get_or, length-take, length-drop}
use lib.Seq.{slice, take_all, take-take}
use lib.Dec.{leb, ltb, eqb}
use Rattle.std.proofs.Common.{Fits, w32}
use borrow.Author.Tests.{leb-true, ltb-true, le-leb, lt-leb, lt-ltb, eq-eqb, ne_eqb}
use Rattle.lists.specs.Keep.{keep, count, Each, numbered}
use Rattle.choose.specs.Falling.{reaches, above, at, falling}
use Rattle.choose.specs.Choose.{threshold, choose, Ranks}
use Rattle.lists.proofs.Keep.{each-mem, each-get_or, each_weaken, each_append, each_take, each-drop, each_keep, count_same, count-split, count-keep-implied, count_map, unnumbered, length-numbered, get_d_numbered, take-map}
use Rattle.choose.proofs.Falling.{compared, count-reaches, length-falling, falling-map, falling-same}
use Rattle.choose.proofs.Staying.{parts, stay-parts, stay-keep}
use Rattle.choose.proofs.Choice.{ranks, ranks-le, threshold-unique}
use Rattle.sort_slots.specs.Sort.{order_at}
use Rattle.choose_slots.specs.Slots.{taking_part, listed}
use Rattle.choose_slots.specs.Steps.{in_range, picked_around}
use Rattle.choose_slots.proofs.Listed.{count-numbered, length-entered, length-listed}

-- an order number by itself, and beside its slot
abbrev self : ℕ → ℕ
self o = o

abbrev slot : ℕ × ℕ → ℕ
slot e = e.0

abbrev ord : ℕ × ℕ → ℕ
ord e = e.1

abbrev takes_part : ℕ × ℕ → Bool
takes_part e = ltb 0 e.1

module _ (p : ℕ → Bool) (orders : List ℕ) where
  count-first : (i : ℕ) → count (λ (e : ℕ × ℕ). p e.1) (take i (numbered 0 orders)) ≡ count p (take i orders)
  count-first i = sym (count_map ord p (take i (numbered 0 orders))) ∙ ap (count p) (sym (take-map ord i (numbered 0 orders)) ∙ ap (take i) (unnumbered 0 orders))

  count-later : (i : ℕ) → count (λ (e : ℕ × ℕ). p e.1) (drop i (numbered 0 orders)) ≡ count p (drop i orders)
  count-later i = omega (arith, count-numbered p orders, count-first i, count-split (λ (e : ℕ × ℕ). p e.1) i (numbered 0 orders), count-split p i orders)

-- ---- at t, and at or above t

module _ {t : ℕ} (positive : 0 < t) where
  from-t : suc (t - 1) ≡ t
  from-t = omega arith

  between-reaches : (m o : ℕ) → o ≤ m → in_range (t - 1) m o ≡ reaches self t o
  between-reaches m o h = rw (le-leb o m h, from-t) (and-true (leb t o))

  between-at : (o : ℕ) → in_range (t - 1) t o ≡ at self t o
  between-at o = rw from-t (go (compared o t))
    where
      go : (o < t) ⊎ ((o ≡ t) ⊎ (t < o)) → (leb t o && leb o t) ≡ eqb o t
      go (inl l) = rw (lt-leb t o l, ne_eqb o t (λ e. omega arith))
      go (inr (inl e)) = rw (le-leb t o (omega arith), le-leb o t (omega arith), eq-eqb o t e)
      go (inr (inr h)) = rw (le-leb t o (omega arith), lt-leb o t h, ne_eqb o t (λ e. omega arith))

-- ---- from the n-th highest order number to the list

module _ (orders : List ℕ) (n t : ℕ) (some : 0 < n) (live : n ≤ count (ltb 0) orders) (r : Ranks self n t orders) where
  -- a slot that takes no part is below t
  pub t-positive : 0 < t
  t-positive = ranks-le self n t 1 orders r.few live

  as_at : (ys : List ℕ) → count (in_range (t - 1) t) ys ≡ count (at self t) ys
  as_at ys = count_same (in_range (t - 1) t) (at self t) ys (each-mem (λ o. in_range (t - 1) t o ≡ at self t o) ys (λ o m. between-at t-positive o))

  module _ (words : (i : ℕ) → Fits w32 (get_or orders i 0)) where
    abbrev m : ℕ
    m = 4294967295

    small : Each (λ o. o ≤ m) orders
    small = each-get_or (λ o. o ≤ m) 0 orders (λ i h. omega (arith, (words i).fits))

    as-reaches : (e : ℕ) → count (in_range (t - 1) m) (take e orders) ≡ count (reaches self t) (take e orders)
    as-reaches e =
        count_same (in_range (t - 1) m) (reaches self t) (take e orders)
        (each_weaken (λ o. o ≤ m) (λ o. in_range (t - 1) m o ≡ reaches self t o) (take e orders) (between-reaches t-positive m) (each_take (λ o. o ≤ m) e orders small))

    pub end-there : n ≤ count (in_range (t - 1) m) orders
    end-there = omega (arith, rw (take_all (length orders) orders (omega arith)) at (as-reaches (length orders)), r.enough)

    module _ (e : ℕ) (first : count (in_range (t - 1) m) (take e orders) ≡ n) where
      all-later : take (length orders - e) (drop e orders) ≡ drop e orders
      all-later = take_all (length orders - e) (drop e orders) (omega (arith, length-drop e orders))

      module _ (displaced : ℕ) (d : displaced ≡ count (ltb t) (take (length orders - e) (drop e orders))) where
        above-later : displaced ≡ count (ltb t) (drop e orders)
        above-later = rw all-later at d

        pub start-there : displaced ≤ count (in_range (t - 1) t) (take e orders)
        start-there = omega (arith, above-later, as_at (take e orders), as-reaches e, count-reaches self t (take e orders), count-split (ltb t) e orders, r.few)

        module _ (b : ℕ) (start : (b ≤ length (take e orders)) × (count (in_range (t - 1) t) (take b (take e orders)) ≡ displaced)) where
          pub before : b ≤ e
          before = omega (arith, start.0, length-take e orders)

          passed : count (in_range (t - 1) t) (take b (take e orders)) ≡ count (ltb t) (drop e orders)
          passed = start.1 ∙ above-later

          abbrev slots : List (ℕ × ℕ)
          slots = numbered 0 orders

          abbrev chosen : List (ℕ × ℕ)
          chosen = parts ord t b e slots

          is-gathered : picked_around t b e orders ≡ map slot chosen
          unfolding picked_around
          is-gathered =
              rw (from-t t-positive, take_all (length orders) slots (omega (arith, length-numbered 0 orders)))
              (sym (map-append slot (keep (above ord t) (take b slots)) (keep (reaches ord t) (slice b e slots) ++ keep (above ord t) (drop e slots)) ∙
              ap (λ (l : List ℕ). map slot (keep (above ord t) (take b slots)) ++ l) (map-append slot (keep (reaches ord t) (slice b e slots)) (keep (above ord t) (drop e slots)))))

          abbrev Beside : ℕ × ℕ → Type 0
          Beside x = order_at orders (slot x) ≡ ord x

          each-beside : Each Beside slots
          each-beside = each-get_or Beside (0, 0) slots (λ i h. rw (get_d_numbered 0 orders i (0, 0) (rw (length-numbered 0 orders) at h), zero-add i))

          chosen-beside : Each Beside chosen
          chosen-beside =
              each_append Beside (keep (above ord t) (take b slots)) (keep (reaches ord t) (slice b e slots) ++ keep (above ord t) (drop e slots))
              (each_keep Beside (above ord t) (take b slots) (each_take Beside b slots each-beside))
              (each_append Beside (keep (reaches ord t) (slice b e slots)) (keep (above ord t) (drop e slots))
              (each_keep Beside (reaches ord t) (slice b e slots) (each-drop Beside b (take e slots) (each_take Beside e slots each-beside)))
              (each_keep Beside (above ord t) (drop e slots) (each-drop Beside e slots each-beside)))

          reaching-part : (x : ℕ × ℕ) → reaches ord t x ≡ true → takes_part x ≡ true
          reaching-part x h = lt-ltb 0 (ord x) (omega (arith, leb-true t (ord x) h, t-positive))

          is_T : threshold ord n (taking_part orders) ≡ t
          unfolding taking_part
          is_T =
              threshold-unique ord n t (taking_part orders) some (omega (arith, length-entered orders))
              (ranks ord n t (taking_part orders)
              (omega (arith, count-keep-implied (above ord t) takes_part slots (λ x h. lt-ltb 0 (ord x) (omega (arith, ltb-true t (ord x) h))), count-numbered (ltb t) orders, r.few))
              (omega (arith, count-keep-implied (reaches ord t) takes_part slots reaching-part, count-numbered (leb t) orders, r.enough)))

          is-chosen : falling ord chosen ≡ choose ord n (taking_part orders)
          unfolding choose taking_part
          is-chosen =
              let all : max (min n (length (taking_part orders))) 1 ≡ n = omega (arith, length-entered orders) in
              rw (all, is_T, stay-keep ord n t slots takes_part reaching-part)
              (stay-parts ord n t slots b e before (count-first (leb t) orders e ∙ sym (as-reaches e) ∙ first)
              (omega (arith, ap (count (at ord t)) (take-take b e slots before), ap (count (at self t)) (take-take b e orders before), count-first (λ o. eqb o t) orders b, as_at (take b (take e orders)), passed, count-later (ltb t) orders e)))

          -- n slots are gathered, and sorted they are the list
          pub is-listed : falling (order_at orders) (picked_around t b e orders) ≡ listed orders n
          unfolding listed
          is-listed = rw is-gathered (falling-map (order_at orders) slot chosen ∙ ap (map slot) (falling-same (λ x. order_at orders (slot x)) ord chosen chosen-beside ∙ is-chosen))

          pub gathered-length : length (picked_around t b e orders) ≡ n
          gathered-length = sym (length-falling (order_at orders) (picked_around t b e orders)) ∙ ap length is-listed ∙ length-listed orders n ∙ omega arith
