-- The marked slots are the r nearest live ones.
use mathlib.Core.Path.{◌≡◌, refl, sym, ap, ◌∙◌}
use mathlib.Core.Bool.{Bool, true, false, cond, ◌&&◌, ◌||◌, and-false}
use mathlib.Core.Logic.{◌⊎◌, ⊎_elim}
use mathlib.Core.List.{List, [], ◌∷◌}
use Prim.Native.Nat.{ℕ, suc, ◌+◌, ◌≤◌, ◌<◌, min}
use native.Mathlib.Omega.{arith}
use native.Mathlib.Decide.{dec_lt}
use lib.Dec.{ltb, eqb}
use lib.ListN.{length, get_or}
use borrow.Author.Tests.{lt-ltb, le-ltb, eq-eqb, ne_eqb, ltb-true}
use Rattle.lists.specs.Lists.{tab, below}
use Rattle.lists.specs.Keep.{bit, keep, count}
use Rattle.lists.proofs.Laws.{length-tab, get_or-tab, tab-ext}
use Rattle.lists.proofs.Front.{count_below}
use Rattle.lists.proofs.Keep.{count-share}
use Rattle.nearest.specs.Distances.{past}
use Rattle.nearest.specs.declared.Limit.{Limit}
use Rattle.marks.specs.Live.{live_at}
use Rattle.nearest.specs.Nearest.{before, is_near, near_marks}
use Rattle.nearest.specs.Limit.{under, level, Reached, Unreached, Limits, is_marked}
use Rattle.nearest.proofs.Counting.{count-first, ties-count, some-limit, level-here, level-rises, under_more, under-rises}

-- ---- tests

count-both : (p q : ℕ → Bool) (xs : List ℕ) → count p (keep q xs) ≡ count (λ x. q x && p x) xs
count-both p q [] = refl
count-both p q (x ∷ xs) = go (q x) (count-both p q xs)
  where
    go : (b : Bool) → count p (keep q xs) ≡ count (λ x. q x && p x) xs → count p (cond b (x ∷ keep q xs) (keep q xs)) ≡ bit (b && p x) + count (λ x. q x && p x) xs
    go true ih = rw ih
    go false ih = omega (arith, ih)

bit-either : (a b c : Bool) → (a ≡ true → b ≡ false) → bit (a || (b && c)) ≡ bit a + bit (b && c)
bit-either true b c h = rw (h refl)
bit-either false b c h = omega arith

ltb-same : (a b c d : ℕ) → (a < b → c < d) → (b ≤ a → d ≤ c) → ltb a b ≡ ltb c d
ltb-same a b c d f g = elim (dec_lt a b) [ yes l ↦ rw (lt-ltb a b l, lt-ltb c d (f l)) | no l ↦ rw (le-ltb a b (omega arith), le-ltb c d (g (omega arith))) ]

-- ---- one slot

module _ (distance : ℕ → ℕ) (alive : List ℕ) (n : ℕ) (low : (i : ℕ) → distance i < past) (xs : List ℕ)
    (are : (i : ℕ) → i < n → get_or xs i 0 ≡ cond (live_at alive i) (distance i) past) (all : length xs ≡ n) where
  abbrev live : ℕ → Bool
  live = live_at alive

  abbrev at : ℕ → ℕ
  at i = get_or xs i 0

  -- before a live slot are those that a distance below its own, or the same distance and a lower number say
  same-before : (i j : ℕ) → i < n → at j < past → at j ≡ distance j → (live i && before distance alive n i j) ≡ (ltb (at i) (at j) || (eqb (at i) (at j) && ltb i j))
  same-before i j l m e = go (live i) (are i l)
    where
      go : (b : Bool) → at i ≡ cond b (distance i) past → (b && before distance alive n i j) ≡ (ltb (at i) (at j) || (eqb (at i) (at j) && ltb i j))
      go true f = rw (f, e)
      go false f = rw (f, le-ltb past (at j) (omega arith), ne_eqb past (at j) (λ g. omega arith))

  module _ (j : ℕ) (l : j < n) (m : at j < past) (e : at j ≡ distance j) where
    pub count-before : count (λ i. before distance alive n i j) (keep live (below n)) ≡ under xs (at j) n + level xs (at j) j
    unfolding under level
    count-before =
        count-both (λ i. before distance alive n i j) live (below n)
        ∙ count_below (λ i. live i && before distance alive n i j) (λ i. ltb (at i) (at j) || (eqb (at i) (at j) && ltb i j)) n (λ i k. same-before i j k m e)
        ∙ count-share (λ i. ltb (at i) (at j) || (eqb (at i) (at j) && ltb i j)) (λ i. ltb (at i) (at j)) (λ i. eqb (at i) (at j) && ltb i j) (below n)
        (λ i. bit-either (ltb (at i) (at j)) (eqb (at i) (at j)) (ltb i j) (λ t. ne_eqb (at i) (at j) (λ f. omega (arith, ltb-true (at i) (at j) t))))
        ∙ ap (λ (k : ℕ). count (λ i. ltb (at i) (at j)) (below n) + k) (count-first (λ i. eqb (at i) (at j)) j n (omega arith))

  module _ (r d ties : ℕ) (t : Reached xs r d ties ⊎ Unreached xs r d ties) (j : ℕ) (l : j < n) where
    limit-most : d ≤ past
    limit-most = ⊎_elim (λ a. omega (arith, a.near)) (λ a. omega (arith, a.far)) t

    few-under : under xs d n ≤ r
    few-under = ⊎_elim (λ a. omega (arith, a.exact, ap (under xs d) all)) (λ a. omega (arith, a.few, ap (under xs d) all)) t

    -- no dead slot is marked
    dead-unmarked : at j ≡ past → is_marked xs d ties j ≡ false
    unfolding is_marked
    dead-unmarked e =
        rw (le-ltb (at j) d (omega (arith, limit-most)))
        (⊎_elim (λ a. rw (ne_eqb (at j) d (λ f. omega (arith, a.near))))
        (λ a. rw (le-ltb (level xs d j) ties (omega (arith, a.none))) (and-false (eqb (at j) d))) t)

    -- a live one is where fewer than r are before it
    live-marked : at j < past → is_marked xs d ties j ≡ ltb (under xs (at j) n + level xs (at j) j) r
    unfolding is_marked
    live-marked m = elim (dec_lt (at j) d) [
      | yes k ↦ rw (lt-ltb (at j) d k)
          (sym (lt-ltb (under xs (at j) n + level xs (at j) j) r
          (omega (arith, few-under, level-here xs j, level-rises xs (at j) (j + 1) n (omega arith), under_more xs (at j) n, under-rises xs (suc (at j)) d n k))))
      | no k ↦ elim (dec_lt d (at j)) [
        | yes o ↦ rw (le-ltb (at j) d (omega arith), ne_eqb (at j) d (λ f. omega arith))
            (sym (le-ltb (under xs (at j) n + level xs (at j) j) r
            (⊎_elim (λ a. omega (arith, a.enough, ap (under xs d) all, ap (level xs d) all, under_more xs d n, under-rises xs (suc d) (at j) n o))
            (λ a. absurd (omega (arith, a.far))) t)))
        | no o ↦
            let f : at j ≡ d = omega arith in
            rw (le-ltb (at j) d (omega arith), eq-eqb (at j) d f, f)
            (⊎_elim (λ a. ltb-same (level xs d j) ties (under xs d n + level xs d j) r (λ g. omega (arith, a.exact, ap (under xs d) all))
            (λ g. omega (arith, a.exact, ap (under xs d) all)))
            (λ a. absurd (omega (arith, a.far))) t)
      ]
    ]

    pub marked-near : is_marked xs d ties j ≡ is_near distance alive n r j
    unfolding is_near
    marked-near = go (live j) refl (are j l)
      where
        go : (b : Bool) → live j ≡ b → at j ≡ cond b (distance j) past →
            is_marked xs d ties j ≡ (b && ltb (count (λ i. before distance alive n i j) (keep live (below n))) r)
        go true g e = let m : at j < past = omega (arith, low j) in rw (count-before j l m e) (live-marked m)
        go false g e = dead-unmarked e

  count-marked : (d ties : ℕ) → count (is_marked xs d ties) (below n) ≡ under xs d n + min ties (level xs d n)
  unfolding is_marked under
  count-marked d ties =
      count-share (is_marked xs d ties) (λ i. ltb (at i) d) (λ i. eqb (at i) d && ltb (level xs d i) ties) (below n)
      (λ i. bit-either (ltb (at i) d) (eqb (at i) d) (ltb (level xs d i) ties) (λ t. ne_eqb (at i) d (λ f. omega (arith, ltb-true (at i) d t))))
      ∙ ap (λ (k : ℕ). count (λ i. ltb (at i) d) (below n) + k) (ties-count xs d ties n)

  -- the live slots are those below `past`
  count-live : under xs past n ≡ count live (below n)
  unfolding under
  count-live = count_below (λ i. ltb (at i) past) live n (λ i l. go i (live i) (are i l))
    where
      go : (i : ℕ) (b : Bool) → at i ≡ cond b (distance i) past → ltb (at i) past ≡ b
      go i true e = lt-ltb (at i) past (omega (arith, low i))
      go i false e = le-ltb (at i) past (omega arith)

  near-many : (r : ℕ) (limit : Limit) → Limits xs r limit → count (is_near distance alive n r) (below n) ≡ min r (count live (below n))
  near-many r limit t =
      let d = limit.distance in
      let marked = sym (count_below (is_marked xs d limit.ties) (is_near distance alive n r) n (λ i l. marked-near r d limit.ties t i l))
      ∙ count-marked d limit.ties in
      ⊎_elim
      (λ a. omega (
        arith,
        marked,
        count-live,
        a.exact,
        a.enough,
        ap (under xs d) all,
        ap (level xs d) all,
        under_more xs d n,
        under-rises xs (suc d) past n a.near,
      ))
      (λ a. omega (arith, marked, count-live, a.none, a.few, ap (under xs d) all, ap (λ (e : ℕ). under xs e n) a.far)) t

  pub marks-near : (r : ℕ) (limit : Limit) → Limits xs r limit →
      tab (λ i. bit (is_marked xs limit.distance limit.ties i)) (length xs) ≡ near_marks distance alive n r
  unfolding near_marks
  marks-near r limit t =
      ap (tab (λ i. bit (is_marked xs limit.distance limit.ties i))) all
      ∙ tab-ext (λ i. bit (is_marked xs limit.distance limit.ties i)) (λ i. bit (is_near distance alive n r i)) n
      (λ i l. ap bit (marked-near r limit.distance limit.ties t i l))

-- as many slots are near as r asks for, or all live ones
pub near-count : (distance : ℕ → ℕ) (alive : List ℕ) (n : ℕ) → ((i : ℕ) → distance i < past) → (r : ℕ) →
    count (is_near distance alive n r) (below n) ≡ min r (count (live_at alive) (below n))
near-count distance alive n low r =
    let f : ℕ → ℕ = λ i. cond (live_at alive i) (distance i) past in
    let t = some-limit (tab f n) r in
    near-many distance alive n low (tab f n) (λ i l. get_or-tab f n i 0 l) (length-tab f n) r t.0 t.1
