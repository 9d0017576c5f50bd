-- Parts of an array of sums: a part written is read back, and the others stay.
use mathlib.Core.Path.{◌≡◌, refl, sym, ap, subst, ◌∙◌}
use mathlib.Core.Logic.{◌≢◌, ⊎_elim}
use mathlib.Core.Bool.{Bool, true, false, cond, ◌||◌}
use mathlib.Core.List.{List, [], ◌∷◌, ◌++◌, append_assoc}
use Prim.Native.Nat.{ℕ, suc, ◌+◌, ◌-◌, ◌*◌, ◌/◌, ◌≤◌, ◌<◌}
use native.Mathlib.Nat.{eq-or-lt_of_le}
use native.Mathlib.Decide.{ℕ_discrete}
use native.Mathlib.Omega.{arith}
use borrow.Author.Count.{below_more}
use lib.Arith.{digits_div}
use lib.Dec.{T}
use lib.ListN.{length, take, drop, get_or, set, length-take, length-drop}
use lib.Seq.{sets, sets-eq, length-sets, take_at, drop_at, length-take-le, ext_get_or, get_or-take, get_or-drop, get_or-set_other}
use lib.Ieee.{Float, nan}
use Rattle.marks.specs.Live.{live_at}
use Rattle.scan.specs.Groups.{part_at, Summed}

-- a place in one part is in no other
disjoint : (m j k i : ℕ) → i < m → j ≢ k → k * m ≤ j * m + i → j * m + i < k * m + m → ⊥
disjoint m j k i h n p q =
    n (sym (digits_div j h) ∙ ap (λ (z : ℕ). z / m) {x = j * m + i} {y = k * m + (j * m + i - k * m)} (omega arith) ∙ digits_div k (omega arith))

module _ {A : Type 0} where
  pub sets-other : (vs l : List A) (i j : ℕ) (d : A) → (i ≤ j → j < i + length vs → ⊥) → get_or (sets l i vs) j d ≡ get_or l j d
  sets-other [] l i j d h = refl
  sets-other (v ∷ vs) l i j d h =
      sets-other vs (set l i v) (suc i) j d (λ p q. h (omega arith) (omega arith)) ∙ get_or-set_other l i j v d (λ e. h (omega arith) (omega arith))

  module _ (m k : ℕ) (vs l : List A) (size : length vs ≡ m) (room : k * m + m ≤ length l) where
    pub part-put : part_at m k (sets l (k * m) vs) ≡ vs
    unfolding part_at
    part-put =
        ap (λ (z : List A). take m (drop (k * m) z)) (sets-eq vs l (k * m) (omega arith) ∙ append_assoc (take (k * m) l) vs (drop (k * m + length vs) l))
        ∙ ap (take m) (drop_at (take (k * m) l) (vs ++ drop (k * m + length vs) l) (k * m) (length-take-le (k * m) l (omega arith)))
        ∙ take_at vs (drop (k * m + length vs) l) m size

    pub part-other : (d : A) (j : ℕ) → j ≢ k → part_at m j (sets l (k * m) vs) ≡ part_at m j l
    unfolding part_at
    part-other d j n =
        ext_get_or d _ _ (simp (length-take, length-drop, length-sets))
        (λ i h.
        let below : i < m = omega (arith, length-take m (drop (j * m) (sets l (k * m) vs))) in
        get_or-take m (drop (j * m) (sets l (k * m) vs)) i d below
        ∙ get_or-drop (j * m) (sets l (k * m) vs) i d
        ∙ sets-other vs l (k * m) (j * m + i) d (λ p q. disjoint m j k i below n p (omega arith))
        ∙ sym (get_or-drop (j * m) l i d)
        ∙ sym (get_or-take m (drop (j * m) l) i d below))

-- ---- the sums of a group, slot by slot

module _ (m : ℕ) (lanes_of : ℕ → List Float) (marks : List ℕ) (first many : ℕ) where
  abbrev Sums : ℕ → List Float → Type 0
  Sums = Summed m lanes_of marks first many

  module _ (s : ℕ) (sums : List Float) (h : Sums s sums) where
    pub summed-skip : live_at marks (first + s) ≡ false → Sums (s + 1) sums
    summed-skip e = record { each = below_more _ _ h.each (λ l t. absurd (subst T (sym t ∙ e) tt)) }

    pub summed-put : length (lanes_of (first + s)) ≡ m → s * m + m ≤ length sums → Sums (s + 1) (sets sums (s * m) (lanes_of (first + s)))
    summed-put size room =
        record {
          each =
              below_more _ _ (λ k l p t. part-other m s (lanes_of (first + s)) sums size room nan k (λ e. omega arith) ∙ h.each k l p t)
              (λ p t. part-put m s (lanes_of (first + s)) sums size room);
        }

    pub summed-more : (next : List Float) → length (lanes_of (first + s)) ≡ m → s * m + m ≤ length sums
        → next ≡ cond (live_at marks (first + s)) (sets sums (s * m) (lanes_of (first + s))) sums → Sums (s + 1) next
    summed-more next size room e = go (live_at marks (first + s)) refl e
      where
        go : (b : Bool) → live_at marks (first + s) ≡ b → next ≡ cond b (sets sums (s * m) (lanes_of (first + s))) sums → Sums (s + 1) next
        go true t f = rw f (summed-put size room)
        go false t f = rw f (summed-skip t)

  -- two slots at once, of which the second is the neighbour, or the first again where that is the last
  module _ (s next : ℕ) (sums : List Float) (h : Sums s sums) (high : next ≤ s + 1) (neighbour : s + 1 < many → next ≡ s + 1) where
    two-more : s + 1 + 1 ≡ s + 2
    two-more = omega arith

    pub summed-skip-two : live_at marks (first + s) ≡ false → live_at marks (first + next) ≡ false → Sums (s + 2) sums
    summed-skip-two e f =
        record {
          each =
              rw two-more at
              (below_more (λ k. k < many → live_at marks (first + k) ≡ true → part_at m k sums ≡ lanes_of (first + k)) (s + 1)
              (summed-skip s sums h e).each
              (λ l t. absurd (subst T (sym t ∙ ap (λ (k : ℕ). live_at marks (first + k)) (sym (neighbour l)) ∙ f) tt)));
        }

    pub summed-put-two : ((i : ℕ) → length (lanes_of i) ≡ m) → s * m + m ≤ length sums → next * m + m ≤ length sums
        → Sums (s + 2) (sets (sets sums (s * m) (lanes_of (first + s))) (next * m) (lanes_of (first + next)))
    summed-put-two size room room2 =
        let once = sets sums (s * m) (lanes_of (first + s)) in
        let fits : next * m + m ≤ length once = rw (length-sets sums (s * m) (lanes_of (first + s))) room2 in
        record {
          each =
              λ k l p t. elim (ℕ_discrete k next) [
                | yes e ↦ rw e (part-put m next (lanes_of (first + next)) once (size (first + next)) fits)
                | no n ↦ part-other m next (lanes_of (first + next)) once (size (first + next)) fits nan k n
                    ∙ (summed-put s sums h (size (first + s)) room).each k (within k l p n) p t
              ];
        }
      where
        within : (k : ℕ) → k < s + 2 → k < many → k ≢ next → k < s + 1
        within k l p n = ⊎_elim (λ e. absurd (n (e ∙ sym (neighbour (omega arith))))) (λ q. q) (eq-or-lt_of_le (omega arith))

    pub summed-two : (after : List Float) → ((i : ℕ) → length (lanes_of i) ≡ m) → s * m + m ≤ length sums → next * m + m ≤ length sums
        → after ≡ cond (live_at marks (first + s) || live_at marks (first + next)) (sets (sets sums (s * m) (lanes_of (first + s))) (next * m) (lanes_of (first + next))) sums
        → Sums (s + 2) after
    summed-two after size room room2 e = go (live_at marks (first + s)) (live_at marks (first + next)) refl refl e
      where
        go : (b d : Bool) → live_at marks (first + s) ≡ b → live_at marks (first + next) ≡ d
            → after ≡ cond (b || d) (sets (sets sums (s * m) (lanes_of (first + s))) (next * m) (lanes_of (first + next))) sums → Sums (s + 2) after
        go true d t u f = rw f (summed-put-two size room room2)
        go false true t u f = rw f (summed-put-two size room room2)
        go false false t u f = rw f (summed-skip-two t u)
