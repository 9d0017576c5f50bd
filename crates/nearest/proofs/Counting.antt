-- How many slots have a distance, or one below it, as loops count them.
use mathlib.Core.Path.{◌≡◌, refl, sym, ap, ◌∙◌}
use mathlib.Core.Bool.{Bool, true, false, ◌&&◌, and-true, and-false}
use mathlib.Core.Logic.{◌⊎◌, inl, inr, ⊎_elim}
use mathlib.Core.List.{List, [], ◌∷◌}
use Prim.Native.Nat.{ℕ, zero, suc, ◌+◌, ◌-◌, ◌*◌, ◌≤◌, ◌<◌, min}
use native.Mathlib.Nat.{eq-or-lt_of_le}
use native.Mathlib.Numerals.{add-one}
use native.Mathlib.Omega.{arith}
use native.Mathlib.Decide.{dec_lt, ℕ_discrete}
use mir.Val.{bool_byte}
use lib.Dec.{ltb, eqb}
use lib.ListN.{length, get_or, set, length-set}
use lib.Seq.{get_or-set_same, get_or-set_other}
use borrow.Author.Tests.{lt-ltb, le-ltb, eq-eqb, ne_eqb, ltb-true, ltb-false}
use Rattle.lists.specs.Lists.{below}
use Rattle.lists.specs.Keep.{bit, count}
use Rattle.lists.proofs.Laws.{length-tab}
use Rattle.lists.proofs.Front.{each-tab}
use Rattle.lists.proofs.Keep.{count-append, count-length, count-implied, count_same, count-share}
use Rattle.nearest.specs.Distances.{past}
use Rattle.nearest.specs.declared.Limit.{Limit}
use Rattle.nearest.specs.Limit.{under, level, Reached, Unreached, Limits}

-- ---- among the numbers below n

module _ (p : ℕ → Bool) where
  count-up : (n : ℕ) → count p (below (suc n)) ≡ count p (below n) + bit (p n)
  count-up n = omega (arith, count-append p (below n) (n ∷ []))

  count-rises : (m n : ℕ) → m ≤ n → count p (below m) ≤ count p (below n)
  count-rises m zero l = let e : m ≡ 0 = omega arith in rw e (omega arith)
  count-rises m (suc n) l =
      ⊎_elim (λ (e : m ≡ suc n). rw e (omega arith)) (λ (k : m < suc n). omega (arith, count-rises m n (omega arith), count-up n)) (eq-or-lt_of_le l)

  -- those below j
  pub count-first : (j n : ℕ) → j ≤ n → count (λ i. p i && ltb i j) (below n) ≡ count p (below j)
  count-first j zero l = let e : j ≡ 0 = omega arith in rw e
  count-first j (suc n) l = ⊎_elim (λ (e : j ≡ suc n). all e) (λ (k : j < suc n). step (omega arith) (count-first j n (omega arith))) (eq-or-lt_of_le l)
    where
      all : j ≡ suc n → count (λ i. p i && ltb i j) (below (suc n)) ≡ count p (below j)
      all e =
          rw e (count_same (λ i. p i && ltb i (suc n)) p (below (suc n))
          (each-tab (λ i. (p i && ltb i (suc n)) ≡ p i) (λ i. i) (suc n) (λ i k. rw (lt-ltb i (suc n) k) (and-true (p i)))))

      step : j ≤ n → count (λ i. p i && ltb i j) (below n) ≡ count p (below j) → count (λ i. p i && ltb i j) (below (suc n)) ≡ count p (below j)
      step k ih = count-append (λ i. p i && ltb i j) (below n) (n ∷ []) ∙ rw (le-ltb n j k, and-false (p n)) (omega (arith, ih))

-- ---- distances

module _ (xs : List ℕ) where
  pub level-up : (d i : ℕ) → level xs d (i + 1) ≡ level xs d i + bit (eqb (get_or xs i 0) d)
  unfolding level
  level-up d i = rw (add-one i) (count-up (λ j. eqb (get_or xs j 0) d) i)

  pub level-few : (d i : ℕ) → level xs d i ≤ i
  unfolding level
  level-few d i = omega (arith, count-length (λ j. eqb (get_or xs j 0) d) (below i), length-tab (λ (j : ℕ). j) i)

  pub level-rises : (d i n : ℕ) → i ≤ n → level xs d i ≤ level xs d n
  unfolding level
  level-rises d i n l = count-rises (λ j. eqb (get_or xs j 0) d) i n l

  pub level-here : (i : ℕ) → level xs (get_or xs i 0) (i + 1) ≡ level xs (get_or xs i 0) i + 1
  level-here i = level-up (get_or xs i 0) i ∙ rw (eq-eqb (get_or xs i 0) (get_or xs i 0) refl)

  pub level-none : (d : ℕ) → level xs d 0 ≡ 0
  unfolding level
  level-none d = refl

  -- the first `ties` of them
  pub ties-count : (d ties n : ℕ) → count (λ i. eqb (get_or xs i 0) d && ltb (level xs d i) ties) (below n) ≡ min ties (level xs d n)
  unfolding level
  ties-count d ties zero = omega arith
  ties-count d ties (suc n) =
      go (eqb (get_or xs n 0) d) (ltb (level xs d n) ties) refl (count-up (λ i. eqb (get_or xs i 0) d && ltb (level xs d i) ties) n)
      (count-up (λ i. eqb (get_or xs i 0) d) n) (ties-count d ties n)
    where
      go : (b c : Bool) → ltb (level xs d n) ties ≡ c → {more all few : ℕ} → more ≡ few + bit (b && c) → all ≡ level xs d n + bit b →
          few ≡ min ties (level xs d n) → more ≡ min ties all
      go true true e f g h = omega (arith, ltb-true (level xs d n) ties e)
      go true false e f g h = omega (arith, ltb-false (level xs d n) ties e)
      go false c e f g h = omega arith

  pub under_none : (n : ℕ) → under xs 0 n ≡ 0
  unfolding under
  under_none zero = refl
  under_none (suc n) = omega (arith, count-up (λ i. ltb (get_or xs i 0) 0) n, under_none n, ap bit (le-ltb (get_or xs n 0) 0 (omega arith)))

  pub under-few : (d n : ℕ) → under xs d n ≤ n
  unfolding under
  under-few d n = omega (arith, count-length (λ i. ltb (get_or xs i 0) d) (below n), length-tab (λ (j : ℕ). j) n)

  split : (x d : ℕ) → bit (ltb x (suc d)) ≡ bit (ltb x d) + bit (eqb x d)
  split x d = elim (dec_lt x d) [
    | yes l ↦ rw (lt-ltb x (suc d) (omega arith), lt-ltb x d l, ne_eqb x d (λ e. omega arith))
    | no l ↦ elim (dec_lt d x) [
      | yes k ↦ rw (le-ltb x (suc d) (omega arith), le-ltb x d (omega arith), ne_eqb x d (λ e. omega arith))
      | no k ↦ rw (lt-ltb x (suc d) (omega arith), le-ltb x d (omega arith), eq-eqb x d (omega arith))
    ]
  ]

  pub under_more : (d n : ℕ) → under xs (suc d) n ≡ under xs d n + level xs d n
  unfolding under level
  under_more d n = count-share (λ i. ltb (get_or xs i 0) (suc d)) (λ i. ltb (get_or xs i 0) d) (λ i. eqb (get_or xs i 0) d) (below n) (λ i. split (get_or xs i 0) d)

  pub under-rises : (d e n : ℕ) → d ≤ e → under xs d n ≤ under xs e n
  unfolding under
  under-rises d e n l =
      count-implied (λ i. ltb (get_or xs i 0) d) (λ i. ltb (get_or xs i 0) e) (below n) (λ i t. lt-ltb (get_or xs i 0) e (omega (arith, ltb-true (get_or xs i 0) d t)))

-- ---- a loop that counts each distance, and what is past them elsewhere

pub record Tallied (xs counts : List ℕ) (size i : ℕ) : Type 0 where
  pub within : i ≤ length xs
  pub long : length counts ≡ size
  pub are : (d : ℕ) → d < past → get_or counts d 0 ≡ level xs d i
  pub few : (d : ℕ) → get_or counts d 0 ≤ i

pub tallied-none : (xs counts : List ℕ) → ((d : ℕ) → get_or counts d 0 ≡ 0) → Tallied xs counts (length counts) 0
tallied-none xs counts z = record { within = omega arith; long = refl; are = λ d l. z d ∙ sym (level-none xs d); few = λ d. omega (arith, z d) }

module _ {xs counts : List ℕ} {size i : ℕ} (t : Tallied xs counts size i) where
  -- one place more is counted: the distance's own, or one past all distances for a number past them
  pub tallied-more : (place : ℕ) → i < length xs → place < size → place ≡ get_or xs i 0 ⊎ (past ≤ get_or xs i 0) × (past ≤ place) →
      Tallied xs (set counts place (get_or counts place 0 + 1)) size (i + 1)
  tallied-more place l room is =
      let x = get_or xs i 0 in
      let new = get_or counts place 0 + 1 in
      let here : get_or (set counts place new) place 0 ≡ new = get_or-set_same counts place new 0 (omega (arith, t.long)) in
      let there : (d : ℕ) → ¬ (d ≡ place) → get_or (set counts place new) d 0 ≡ get_or counts d 0 = λ d o. get_or-set_other counts place d new 0 o in
      let at : (d : ℕ) → d ≡ place → get_or counts d 0 ≡ get_or counts place 0 = λ d e. ap (λ (j : ℕ). get_or counts j 0) e in
      record {
        within = omega arith;
        long = length-set counts place new ∙ t.long;
        are = λ d m. elim (ℕ_discrete d place) [
          | yes e ↦
              let f : d ≡ x = ⊎_elim (λ (g : place ≡ x). e ∙ g) (λ g. absurd (omega (arith, g.1))) is in
              ap (λ (j : ℕ). get_or (set counts place new) j 0) e ∙ here
              ∙ omega (arith, at d e, t.are d m, ap (λ (j : ℕ). level xs j i) f, level-here xs i, ap (λ (j : ℕ). level xs j (i + 1)) f)
          | no o ↦
              there d o ∙ omega (arith, t.are d m, level-up xs d i, ap bit (ne_eqb x d (λ e. ⊎_elim (λ (g : place ≡ x). o (sym (g ∙ e))) (λ g. omega (arith, g.0)) is)))
        ];
        few = λ d. elim (ℕ_discrete d place) [
          | yes e ↦ omega (arith, ap (λ (j : ℕ). get_or (set counts place new) j 0) e, here, t.few place)
          | no o ↦ omega (arith, there d o, t.few d)
        ];
      }

-- where a number is counted: at its own place, or `turn` places on where it is past all distances
module _ (x turn : ℕ) where
  abbrev place : ℕ
  place = x + bool_byte (eqb x past) * turn

  pub place-is : place ≡ x ⊎ (past ≤ x) × (past ≤ place)
  place-is = elim (ℕ_discrete x past) [
    | yes e ↦ inr (omega arith, omega arith)
    | no o ↦ inl (rw (ne_eqb x past o) (omega arith))
  ]

  pub place-low : {size : ℕ} → x < 12290 → turn < 64 → past + 64 ≤ size → place < size
  place-low l k h = elim (ℕ_discrete x past) [
    | yes e ↦ rw (eq-eqb x past e) (omega arith)
    | no o ↦ rw (ne_eqb x past o) (omega arith)
  ]

-- ---- a loop that looks for the limit

pub record Nearer (xs : List ℕ) (r nearer d : ℕ) : Type 0 where
  pub within : d ≤ past
  pub so_far : nearer ≡ under xs d (length xs)
  pub few : nearer ≤ r

pub nearer-none : (xs : List ℕ) (r : ℕ) → Nearer xs r 0 0
nearer-none xs r = record { within = omega arith; so_far = sym (under_none xs (length xs)); few = omega arith }

module _ {xs : List ℕ} {r nearer d : ℕ} (m : Nearer xs r nearer d) where
  module _ (l : d < past) (c : ℕ) (is : c ≡ level xs d (length xs)) where
    pub nearer-few : nearer + c ≤ length xs
    nearer-few = omega (arith, m.so_far, is, under_more xs d (length xs), under-few xs (suc d) (length xs))

    pub nearer-more : nearer + c < r → Nearer xs r (nearer + c) (d + 1)
    nearer-more h = record { within = omega arith; so_far = rw (add-one d) (omega (arith, m.so_far, is, under_more xs d (length xs))); few = omega arith }

    pub limit-reached : r ≤ nearer + c → Reached xs r d (r - nearer)
    limit-reached h = record { near = l; exact = omega (arith, m.so_far, m.few); enough = omega (arith, m.so_far, is) }

  pub limit-past : past ≤ d → Unreached xs r past 0
  limit-past h = let e : d ≡ past = omega (arith, m.within) in record { far = refl; none = refl; few = omega (arith, m.few, rw e at m.so_far) }

-- there is a limit
limit-from : (xs : List ℕ) (r left nearer d : ℕ) → left + d ≡ past → Nearer xs r nearer d → (l : Limit) × Limits xs r l
limit-from xs r zero nearer d e m = (record { distance = past; ties = 0 }, inr (limit-past m (omega arith)))
limit-from xs r (suc left) nearer d e m =
    elim (dec_lt (nearer + level xs d (length xs)) r) [
      | yes k ↦ limit-from xs r left (nearer + level xs d (length xs)) (d + 1) (omega arith) (nearer-more m (omega arith) (level xs d (length xs)) refl k)
      | no k ↦ (record { distance = d; ties = r - nearer }, inl (limit-reached m (omega arith) (level xs d (length xs)) refl (omega arith)))
    ]

pub some-limit : (xs : List ℕ) (r : ℕ) → (l : Limit) × Limits xs r l
some-limit xs r = limit-from xs r past 0 0 (omega arith) (nearer-none xs r)
