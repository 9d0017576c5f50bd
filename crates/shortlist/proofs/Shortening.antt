-- A loop that writes the shortlist.
use mathlib.Core.Path.{◌≡◌, ap, ◌∙◌}
use mathlib.Core.Bool.{true, false, cond}
use mathlib.Core.List.{List, [], ◌∷◌, ◌++◌, map, map-append}
use Prim.Native.Nat.{ℕ, ◌+◌, ◌≤◌, ◌<◌}
use native.Mathlib.Nat.{zero-add}
use native.Mathlib.Numerals.{add-one}
use native.Mathlib.Omega.{arith}
use lib.ListN.{length, take, get_or, set, length-append, length-take, length-map}
use lib.Seq.{take-nil, drop-nil, take-suc, take_all, sets}
use Rattle.lists.specs.Keep.{numbered}
use Rattle.choose.specs.Falling.{reaches}
use Rattle.lists.proofs.Keep.{count-length, length-numbered, get_d_numbered, sets-append}
use Rattle.shortlist.specs.Shortlist.{shortlist, shortened, is_kept}
use Rattle.shortlist.proofs.Among.{short-length, short-next}

abbrev slot : ℕ × ℕ → ℕ
slot e = e.0

abbrev ord : ℕ × ℕ → ℕ
ord e = e.1

-- of the slots before i
abbrev first : ℕ → ℕ → List ℕ → ℕ → List (ℕ × ℕ)
first n t orders i = shortlist ord n t (take i (numbered 0 orders))

pub record Shortening (orders : List ℕ) (t n : ℕ) (names₀ numbers₀ names numbers : List ℕ) (m i : ℕ) : Type 0 where
  pub within : i ≤ length orders
  pub many : m ≡ length (first n t orders i)
  pub slots-in : names ≡ sets names₀ 0 (map slot (first n t orders i))
  pub orders-in : numbers ≡ sets numbers₀ 0 (map ord (first n t orders i))

none : (n t : ℕ) → shortlist ord n t [] ≡ []
unfolding shortlist
none n t = simp (take-nil, drop-nil)

pub shortening-none : (orders : List ℕ) (t n : ℕ) (names numbers : List ℕ) → Shortening orders t n names numbers names numbers 0 0
shortening-none orders t n names numbers = record { within = omega arith; many = rw (none n t); slots-in = rw (none n t); orders-in = rw (none n t) }

module _ {orders : List ℕ} {t n : ℕ} {names₀ numbers₀ names numbers : List ℕ} {m i : ℕ} (s : Shortening orders t n names₀ numbers₀ names numbers m i) where
  pub shortening-few : m ≤ i
  shortening-few =
      omega (arith, s.many, short-length ord n t (take i (numbered 0 orders)), count-length (reaches ord t) (take i (numbered 0 orders)), length-take i (numbered 0 orders))

  -- what the loop leaves where it ends
  pub shortening-all : length orders ≤ i →
      (m ≡ length (shortened n t orders)) × (names ≡ sets names₀ 0 (map slot (shortened n t orders))) × (numbers ≡ sets numbers₀ 0 (map ord (shortened n t orders)))
  shortening-all h =
      let e : first n t orders i ≡ shortened n t orders = ap (shortlist ord n t) (take_all i (numbered 0 orders) (rw (length-numbered 0 orders) h)) in
      (rw e at s.many, rw e at s.slots-in, rw e at s.orders-in)

  module _ (here : i < length orders) where
    abbrev order : ℕ
    order = get_or orders i 0

    one_more : take (i + 1) (numbered 0 orders) ≡ take i (numbered 0 orders) ++ ((i, order) ∷ [])
    one_more =
        rw (add-one i) (take-suc (numbered 0 orders) i (0, 0) (rw (length-numbered 0 orders) here)) ∙
        ap (λ (e : ℕ × ℕ). take i (numbered 0 orders) ++ (e ∷ [])) (get_d_numbered 0 orders i (0, 0) here ∙ rw (zero-add i))

    next : first n t orders (i + 1) ≡ cond (is_kept order t n m) (first n t orders i ++ ((i, order) ∷ [])) (first n t orders i)
    next = rw (one_more, s.many) (short-next ord n t (take i (numbered 0 orders)) (i, order))

    written : (places : List ℕ) {now : List ℕ} (f : ℕ × ℕ → ℕ) → now ≡ sets places 0 (map f (first n t orders i)) →
        set now m (f (i, order)) ≡ sets places 0 (map f (first n t orders i ++ ((i, order) ∷ [])))
    written places f e =
        rw (map-append f (first n t orders i) ((i, order) ∷ []), sets-append places 0 (map f (first n t orders i)) (f (i, order) ∷ []), ← e, zero-add (length (map f (first n t orders i))), length-map (first n t orders i) f, ← s.many)

    pub shortening-kept : is_kept order t n m ≡ true → Shortening orders t n names₀ numbers₀ (set names m i) (set numbers m order) (m + 1) (i + 1)
    shortening-kept kept =
        let e : first n t orders (i + 1) ≡ first n t orders i ++ ((i, order) ∷ []) = rw kept at next in
        record {
          within = omega arith;
          many = rw (e, length-append (first n t orders i) ((i, order) ∷ []), s.many);
          slots-in = rw e (written names₀ slot s.slots-in);
          orders-in = rw e (written numbers₀ ord s.orders-in);
        }

    pub shortening-other : is_kept order t n m ≡ false → Shortening orders t n names₀ numbers₀ names numbers m (i + 1)
    shortening-other not =
        let e : first n t orders (i + 1) ≡ first n t orders i = rw not at next in
        record { within = omega arith; many = rw e s.many; slots-in = rw e s.slots-in; orders-in = rw e s.orders-in }
