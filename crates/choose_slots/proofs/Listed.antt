-- How many slots are listed, and where the call writes the list.
use mathlib.Core.Path.{◌≡◌, refl, ap, sym, ◌∙◌}
use mathlib.Core.Bool.{Bool, true, false, cond, ◌&&◌, and-false}
use mathlib.Core.List.{List, [], ◌∷◌, ◌++◌, map}
use Prim.Native.Nat.{ℕ, min, max, ◌≤◌, ◌<◌}
use mathlib.Core.Logic.{◌⊎◌, inl, inr}
use native.Mathlib.Omega.{arith}
use lib.ListN.{length, take, drop, length-map, length-take}
use lib.Dec.{leb, ltb}
use borrow.Author.Tests.{leb-true, le-leb, lt-leb}
use Rattle.lists.specs.Lists.{over}
use Rattle.lists.specs.Keep.{count, numbered}
use Rattle.choose.specs.Choose.{choose}
use Rattle.lists.proofs.Keep.{length-keep, count_map, unnumbered}
use Rattle.choose.proofs.Choice.{choose-length, choose-wanted}
use Rattle.choose_slots.specs.Slots.{taking_part, listed, listed_within}

pub count-numbered : (p : ℕ → Bool) (orders : List ℕ) → count (λ (e : ℕ × ℕ). p e.1) (numbered 0 orders) ≡ count p orders
count-numbered p orders = sym (count_map (λ (e : ℕ × ℕ). e.1) p (numbered 0 orders)) ∙ ap (count p) (unnumbered 0 orders)

module _ (orders : List ℕ) where
  pub length-entered : length (taking_part orders) ≡ count (ltb 0) orders
  unfolding taking_part
  length-entered = length-keep (λ (e : ℕ × ℕ). ltb 0 e.1) (numbered 0 orders) ∙ count-numbered (ltb 0) orders

  pub length-listed : (k : ℕ) → length (listed orders k) ≡ min (max k 1) (count (ltb 0) orders)
  unfolding listed
  length-listed k = length-map (choose (λ e. e.1) k (taking_part orders)) (λ (e : ℕ × ℕ). e.0) ∙ choose-length (λ (e : ℕ × ℕ). e.1) k (taking_part orders) ∙ ap (min (max k 1)) length-entered

  listed-wanted : (k : ℕ) → listed orders (min (max k 1) (count (ltb 0) orders)) ≡ listed orders k
  unfolding listed
  listed-wanted k = rw (← length-entered) (ap (map (λ (e : ℕ × ℕ). e.0)) (choose-wanted (λ (e : ℕ × ℕ). e.1) k (taking_part orders)))

module _ (orders : List ℕ) (k : ℕ) (places : List ℕ) where
  -- all is written where there is room
  pub answered-listed : length orders ≤ 65536 → length (listed orders k) ≤ length places → listed_within orders k places ≡ listed orders k
  unfolding listed_within
  answered-listed few room = rw (le-leb (length orders) 65536 few, le-leb (length (listed orders k)) (length places) room)

  -- no more than there is room for
  pub answered-few : length (listed_within orders k places) ≤ length places
  unfolding listed_within
  answered-few = go (leb (length orders) 65536) (leb (length (listed orders k)) (length places)) refl
    where
      go : (a b : Bool) → leb (length (listed orders k)) (length places) ≡ b → length (cond (a && b) (listed orders k) []) ≤ length places
      go true true e = leb-true (length (listed orders k)) (length places) e
      go true false e = omega arith
      go false b e = omega arith

  -- what the call ensures of its result and of the places after it
  abbrev Answers : ℕ → List ℕ → Type 0
  Answers r after = (r ≡ length (listed_within orders k places)) × (after ≡ over (listed_within orders k places) places)

  nothing : listed_within orders k places ≡ [] → Answers 0 places
  unfolding over
  nothing e = (rw e, rw e)

  pub too_many : 65536 < length orders → Answers 0 places
  unfolding listed_within
  too_many h = nothing (rw (lt-leb (length orders) 65536 h))

  module _ (n : ℕ) (wanted : n ≡ min (max k 1) (count (ltb 0) orders)) where
    is-wanted : length (listed orders k) ≡ n
    is-wanted = length-listed orders k ∙ sym wanted

    -- no slot takes part, or there are too few places
    pub none-written : (n ≡ 0) ⊎ ((n ≡ 0 → ⊥) × (length places < n)) → Answers 0 places
    unfolding listed_within
    none-written (inl h) = nothing (go (listed orders k) (omega (arith, is-wanted)) (leb (length orders) 65536 && leb (length (listed orders k)) (length places)))
      where
        go : (l : List ℕ) → length l ≡ 0 → (b : Bool) → cond b l [] ≡ []
        go [] e true = refl
        go [] e false = refl
        go (x ∷ l) e b = absurd (omega arith)
    none-written (inr h) = nothing (rw (lt-leb (length (listed orders k)) (length places) (omega (arith, is-wanted, h.1)), and-false (leb (length orders) 65536)))

    pub all-written : {l : List ℕ} → length orders ≤ 65536 → n ≤ length places → l ≡ listed orders (length (take n places)) → Answers n (l ++ drop n places)
    unfolding over
    all-written few room e =
        let m : length (take n places) ≡ n = omega (arith, length-take n places) in
        let a : listed_within orders k places ≡ listed orders k = answered-listed few (omega (arith, is-wanted)) in
        (rw (a, is-wanted), rw (a, is-wanted, e, m, wanted, listed-wanted orders k))
