-- Entries whose slots are marked as they come: the test of a key table.
use mathlib.Core.Path.{◌≡◌, refl, sym, ap, ◌∙◌}
use mathlib.Core.Bool.{Bool, true, false, ◌&&◌, and-false, true≢false}
use mathlib.Core.List.{List, [], ◌∷◌}
use Prim.Native.Nat.{ℕ, zero, suc, ◌+◌, ◌≤◌, ◌<◌}
use native.Mathlib.Numerals.{add-one}
use native.Mathlib.Decide.{ℕ_discrete}
use native.Mathlib.Nat.{eq-or-lt_of_le}
use native.Mathlib.Omega.{arith}
use mathlib.Core.Logic.{◌⊎◌, inl, inr}
use lib.ListN.{length, get_or, set, replicate, length-set, length-replicate}
use lib.Seq.{get_or-set_same, get_or-set_other}
use lib.Dec.{ltb, eqb}
use borrow.Author.Tests.{lt-ltb, le-ltb, eq-eqb, ne_eqb}
use Rattle.lists.specs.Lists.{tab}
use Rattle.lists.specs.Keep.{bit, count, all}
use Rattle.lists.proofs.Keep.{count-append}
use Rattle.lists.proofs.Front.{each-tab, tab-each}
use Rattle.index.specs.Read.{well_keyed}
use Rattle.index.proofs.Fits.{all-each, each_all}

-- marks that are all off
pub no-mark : (n i : ℕ) → get_or (replicate n false) i false ≡ false
no-mark zero i = refl
no-mark (suc n) zero = refl
no-mark (suc n) (suc i) = no-mark n i

-- a test that one entry fails
not-all : {A : Type 0} (p : A → Bool) (f : ℕ → A) (k i : ℕ) → i < k → p (f i) ≡ false → all p (tab f k) ≡ false
not-all p f k i l e = go (all p (tab f k)) refl
  where
    go : (b : Bool) → all p (tab f k) ≡ b → b ≡ false
    go true h = absurd (true≢false (sym (tab-each (λ x. p x ≡ true) f k (all-each p (tab f k) h) i l) ∙ e))
    go false h = refl

bit-most : (b : Bool) → bit b ≤ 1
bit-most true = omega arith
bit-most false = omega arith

-- the slots of the entries
module _ (f : ℕ → ℕ) where
  count-one : (p : ℕ → Bool) (i : ℕ) → count p (tab f (suc i)) ≡ count p (tab f i) + bit (p (f i))
  count-one p i = omega (arith, count-append p (tab f i) (f i ∷ []))

  pub count-grows : (p : ℕ → Bool) (i k : ℕ) → i ≤ k → count p (tab f i) ≤ count p (tab f k)
  count-grows p i zero l = let e : i ≡ zero = omega arith in rw e (omega arith)
  count-grows p i (suc k) l = go (eq-or-lt_of_le l) (count-grows p i k)
    where
      go : (i ≡ suc k) ⊎ (i < suc k) → (i ≤ k → count p (tab f i) ≤ count p (tab f k)) → count p (tab f i) ≤ count p (tab f (suc k))
      go (inl e) ih = rw e (omega arith)
      go (inr m) ih = omega (arith, ih (omega arith), count-one p k)

  -- the entry counts itself
  own-count : (i : ℕ) → count (eqb (f i)) (tab f (suc i)) ≡ count (eqb (f i)) (tab f i) + 1
  own-count i = count-one (eqb (f i)) i ∙ ap (λ (b : Bool). count (eqb (f i)) (tab f i) + bit b) (eq-eqb (f i) (f i) refl)

  module _ (n k : ℕ) where
    pub past-count : (i : ℕ) → i < k → n ≤ f i → well_keyed n (tab f k) ≡ false
    past-count i l h = not-all (λ s. ltb s n && eqb (count (eqb s) (tab f k)) 1) f k i l (rw (le-ltb (f i) n h))

    pub came-twice : (i : ℕ) → i < k → 0 < count (eqb (f i)) (tab f i) → well_keyed n (tab f k) ≡ false
    came-twice i l h =
        not-all (λ s. ltb s n && eqb (count (eqb s) (tab f k)) 1) f k i l
        (rw (ne_eqb (count (eqb (f i)) (tab f k)) 1 (λ e. absurd (omega (arith, count-grows (eqb (f i)) (suc i) k l, own-count i)))) (and-false (ltb (f i) n)))

    -- the first i entries are sound, and their slots are marked
    pub record Marked (seen : List Bool) (i : ℕ) : Type 0 where
      pub low : (j : ℕ) → j < i → f j < n
      pub marks : (s : ℕ) → count (eqb s) (tab f i) ≡ bit (get_or seen s false)
      pub room : n ≤ length seen

    pub marked-none : (m : ℕ) → n ≤ m → Marked (replicate m false) 0
    marked-none m l = record { low = λ j h. absurd (omega arith); marks = λ s. sym (ap bit (no-mark m s)); room = rw (length-replicate m false) l }

    module _ {seen : List Bool} {i : ℕ} (m : Marked seen i) (l : i < k) where
      pub seen_twice : get_or seen (f i) false ≡ true → well_keyed n (tab f k) ≡ false
      seen_twice e = came-twice i l (omega (arith, m.marks (f i), ap bit e))

      pub marked_more : f i < n → get_or seen (f i) false ≡ false → Marked (set seen (f i) true) (i + 1)
      marked_more low e =
          record {
            low = λ j h. below j h (ℕ_discrete j i);
            marks = λ s. rw (add-one i) (at s (ℕ_discrete s (f i)));
            room = rw (length-set seen (f i) true) m.room;
          }
        where
          below : (j : ℕ) → j < i + 1 → Dec (j ≡ i) → f j < n
          below j h (yes q) = rw q low
          below j h (no q) = m.low j (let z : j < i = omega arith in z)

          at : (s : ℕ) → Dec (s ≡ f i) → count (eqb s) (tab f (suc i)) ≡ bit (get_or (set seen (f i) true) s false)
          at s (yes q) =
              rw (q, get_or-set_same seen (f i) true false (omega (arith, m.room)))
              (own-count i ∙ omega (arith, m.marks (f i), ap bit e))
          at s (no q) =
              rw (get_or-set_other seen (f i) s true false q)
              (count-one (eqb s) i ∙ omega (arith, m.marks s, ap bit (ne_eqb s (f i) q)))

    pub marked_all : {seen : List Bool} {i : ℕ} → Marked seen i → i ≡ k → well_keyed n (tab f k) ≡ true
    marked_all {seen} {i} m e =
        each_all (λ s. ltb s n && eqb (count (eqb s) (tab f k)) 1) (tab f k)
        (each-tab (λ s. (ltb s n && eqb (count (eqb s) (tab f k)) 1) ≡ true) f k (λ j h. sound j h (m.low j (omega arith)) (ap (λ (i : ℕ). count (eqb (f j)) (tab f i)) (sym e) ∙ m.marks (f j))))
      where
        sound : (j : ℕ) → j < k → f j < n → count (eqb (f j)) (tab f k) ≡ bit (get_or seen (f j) false) → (ltb (f j) n && eqb (count (eqb (f j)) (tab f k)) 1) ≡ true
        sound j h low c =
            rw (lt-ltb (f j) n low)
            (eq-eqb (count (eqb (f j)) (tab f k)) 1 (omega (arith, c, bit-most (get_or seen (f j) false), count-grows (eqb (f j)) (suc j) k h, own-count j)))
