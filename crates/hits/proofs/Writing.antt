-- Where the chosen slots and their scores are written.
use mathlib.Core.Path.{◌≡◌, ap, ◌∙◌}
use mathlib.Core.Bool.{Bool, true, false, cond, ◌&&◌}
use mathlib.Core.List.{List, [], ◌++◌, map, append_assoc}
use Prim.Native.Nat.{ℕ, ◌-◌, min, ◌≤◌, ◌<◌}
use native.Mathlib.Nat.{sub-zero, zero-add}
use native.Mathlib.Omega.{arith}
use lib.Dec.{leb}
use lib.Ieee.{Float}
use lib.ListN.{length, take, drop, get_or, take-append-drop}
use lib.Seq.{length-take-le, drop-append-le}
use Rattle.pattern.specs.Binary32.{+0}
use Rattle.lists.specs.Lists.{over}
use Rattle.lists.specs.Keep.{numbered, Each}
use Rattle.lists.proofs.Laws.{length_over}
use Rattle.lists.proofs.Keep.{each_keep, each-get_or, length-numbered, get_d_numbered}
use Rattle.lists.proofs.Front.{each_map, take-over}
use Rattle.choose.specs.Choose.{choose}
use Rattle.choose.proofs.Choice.{choose-each}
use Rattle.choose_slots.specs.Slots.{taking_part, listed, listed_within}
use Rattle.choose_slots.proofs.Listed.{answered-few}
use Rattle.hits.specs.Steps.{WritesHits}

-- ---- what is written over a part

-- written over the first p places, all others kept
pub over-part : {A : Type 0} (ys xs : List A) (p : ℕ) → length ys ≤ p → p ≤ length xs → over ys (take (p - 0) xs) ++ drop (p - 0) xs ≡ over ys xs
unfolding over
over-part ys xs p h l =
    let few : length ys ≤ length (take p xs) = rw (length-take-le p xs l) h in
    rw (sub-zero p, append_assoc ys (drop (length ys) (take p xs)) (drop p xs), ← drop-append-le (length ys) (take p xs) (drop p xs) few, take-append-drop p xs)

-- ---- what the choice writes

module _ (orders : List ℕ) (k : ℕ) where
  pub listed-each : Each (λ i. i < length orders) (listed orders k)
  unfolding listed taking_part
  listed-each =
      each_map (λ i. i < length orders) (λ (e : ℕ × ℕ). e.0) (choose (λ e. e.1) k (taking_part orders))
      (choose-each (λ (e : ℕ × ℕ). e.1) k (taking_part orders) (λ e. e.0 < length orders)
      (each_keep (λ e. e.0 < length orders) _ (numbered 0 orders)
      (each-get_or (λ e. e.0 < length orders) (0, 0) (numbered 0 orders) at)))
    where
      at : (i : ℕ) → i < length (numbered 0 orders) → (get_or (numbered 0 orders) i (0, 0)).0 < length orders
      at i l =
          let m : i < length orders = rw (length-numbered 0 orders) at l in
          rw (get_d_numbered 0 orders i (0, 0) m, zero-add i) m

  module _ (places : List ℕ) where
    pub answered-each : Each (λ i. i < length orders) (listed_within orders k places)
    unfolding listed_within
    answered-each = go (leb (length orders) 65536 && leb (length (listed orders k)) (length places))
      where
        go : (b : Bool) → Each (λ i. i < length orders) (cond b (listed orders k) [])
        go true = listed-each
        go false = tt

-- ---- the two slices

-- The choice was written to the first p places of `slots`, which are `last` after it, and n is how many it gave.
module _ (orders : List ℕ) (k : ℕ) (slots : List ℕ) (p : ℕ) (within : p ≤ length slots) (n : ℕ) (last : List ℕ) where
  abbrev chosen : List ℕ
  chosen = listed_within orders k (take (p - 0) slots)

  module _ (many : n ≡ length chosen) (is : last ≡ over chosen (take (p - 0) slots)) where
    abbrev after : List ℕ
    after = last ++ drop (p - 0) slots

    pub chosen-few : n ≤ p
    chosen-few = rw many (omega (arith, answered-few orders k (take (p - 0) slots), length-take-le (p - 0) slots (omega arith)))

    pub slots-written : after ≡ over chosen slots
    slots-written = ap (λ (l : List ℕ). l ++ drop (p - 0) slots) is ∙ over-part chosen slots p (rw many at chosen-few) within

    pub slots-reach : n ≤ length after
    slots-reach = rw (slots-written, length_over chosen slots (omega (arith, chosen-few, many))) (omega (arith, chosen-few))

    pub slots-front : take (n - 0) after ≡ chosen
    slots-front = rw (slots-written, many) (take-over chosen slots (length chosen - 0) (sub-zero (length chosen)))

    -- of m slots, and q places for their scores
    pub part-fits : (m q : ℕ) → m ≡ length orders → p ≤ q → Each (λ i. i < m) (take (n - 0) after) × (length (take (n - 0) after) ≤ q)
    part-fits m q e l = rw (slots-front, e) (answered-each orders k (take (p - 0) slots), omega (arith, chosen-few, many))

    pub both-written : (all scores next : List Float) → p ≡ min (length slots) (length scores) → next ≡ over (map (λ i. get_or all i +0) (take (n - 0) after)) scores →
        WritesHits all orders k slots after scores next n
    both-written all scores next e f =
        let c : chosen ≡ listed_within orders k (take (min (length slots) (length scores)) slots) = ap (λ (j : ℕ). listed_within orders k (take j slots)) (sub-zero p ∙ e) in
        record {
          many = many ∙ ap length c;
          slots-in = slots-written ∙ ap (λ (l : List ℕ). over l slots) c;
          scores-in = f ∙ ap (λ (l : List ℕ). over (map (λ i. get_or all i +0) l) scores) (slots-front ∙ c);
        }
