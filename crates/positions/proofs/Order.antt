-- Positions by slot number.
use mathlib.Core.Path.{◌≡◌, sym, ap, ◌∙◌}
use mathlib.Core.Bool.{Bool, false, cond, true≢false}
use mathlib.Core.Logic.{⊎_elim}
use Prim.Native.Nat.{ℕ, zero, suc, ◌-◌, ◌≤◌, ◌<◌}
use native.Mathlib.Nat.{eq-or-lt_of_le, le_of_suc-le-suc}
use native.Mathlib.Omega.{arith}
use lib.ListN.{get_or}
use lib.Dec.{eqb}
use borrow.Author.Tests.{eq-eqb, ne_eqb}
use Rattle.positions.specs.Decides.{Decides}
use Rattle.positions.specs.Ordered.{Keys, Holds, New, Preceded, Ordered}

-- what is not 0 is one more than a slot's number
pub entry-slot : (entry : ℕ) → (entry ≡ 0 → ⊥) → entry ≡ suc (entry - 1)
entry-slot entry h = omega (arith, h)

-- ---- one slot

module _ (a : Keys) (n slot : ℕ) where
  -- a slot without a key
  pub loose-new : get_or a.keyed slot false ≡ false → get_or a.held slot 0 ≡ 0 → New a slot
  loose-new off z = record { once = λ i k p l h h'. true≢false (sym h'.keyed ∙ off); loose = λ e. z }

  pub loose-not : get_or a.keyed slot false ≡ false → (get_or a.held slot 0 ≡ 0 → ⊥) → slot < n → Ordered a n → ⊥
  loose-not off f l o = f ((o.new slot l).loose off)

pub ordered-if : (a : Keys) (n : ℕ) (b : Bool) → ((j : ℕ) → j < n → New a j) → Decides b ((j : ℕ) → j < n → Preceded a n j) → Decides b (Ordered a n)
ordered-if a n b w d = record { yes = λ e. record { new = w; next = d.yes e }; no = λ e o. d.no e o.next }

-- ---- a position is lower than the number of slots

-- Where g takes each value up to p below n, p is below n. In the step the last place is dropped, and what it held goes to the place of the value suc p.
module _ (g : ℕ → ℕ) (n p : ℕ) (h : (q : ℕ) → q ≤ suc p → (i : ℕ) × (i < suc n) × (g i ≡ q)) where
  moved : ℕ → ℕ
  moved i = cond (eqb (g i) (suc p)) (g n) (g i)

  moved_same : (q i : ℕ) → q ≤ p → g i ≡ q → moved i ≡ q
  unfolding moved
  moved_same q i l e = rw (ne_eqb (g i) (suc p) (λ f. omega (arith, e, f))) e

  moved-taken : (i : ℕ) → g i ≡ suc p → moved i ≡ g n
  unfolding moved
  moved-taken i e = rw (eq-eqb (g i) (suc p) e)

  moved-covers : (q : ℕ) → q ≤ p → (i : ℕ) × (i < n) × (moved i ≡ q)
  moved-covers q l =
      let w = h q (omega arith) in
      let t = h (suc p) (omega arith) in
      ⊎_elim
      (λ (e : w.0 ≡ n).
      let v : g n ≡ q = ap g (sym e) ∙ w.2 in
      ⊎_elim
      (λ (d : t.0 ≡ n). absurd (omega (arith, v, ap g (sym d) ∙ t.2)))
      (λ (m : t.0 < n). (t.0, m, moved-taken t.0 t.2 ∙ v))
      (eq-or-lt_of_le (le_of_suc-le-suc t.1)))
      (λ (m : w.0 < n). (w.0, m, moved_same q w.0 l w.2))
      (eq-or-lt_of_le (le_of_suc-le-suc w.1))

covered-low : (g : ℕ → ℕ) (n p : ℕ) → ((q : ℕ) → q ≤ p → (i : ℕ) × (i < n) × (g i ≡ q)) → p < n
covered-low g zero p h = absurd (omega (arith, (h 0 (omega arith)).1))
covered-low g (suc n) zero h = omega arith
covered-low g (suc n) (suc p) h = omega (arith, covered-low (moved g n p h) n p (moved-covers g n p h))

module _ (a : Keys) (n : ℕ) (o : Ordered a n) where
  -- where a position is held, so are all before it
  all-before : (k p j : ℕ) → j < n → Holds a k p j → (q : ℕ) → q ≤ p → (i : ℕ) × (i < n) × (get_or a.held i 0 ≡ q)
  all-before k zero j l h q m = (j, l, omega (arith, h.position))
  all-before k (suc p) j l h q m =
      ⊎_elim
      (λ (e : q ≡ suc p). (j, l, h.position ∙ sym e))
      (λ (m : q < suc p). let w = o.next j l k p h in all-before k p w.0 w.1 w.2 q (le_of_suc-le-suc m))
      (eq-or-lt_of_le m)

  pub position-low : (k p j : ℕ) → j < n → Holds a k p j → p < n
  position-low k p j l h = covered-low (λ i. get_or a.held i 0) n p (all-before k p j l h)
