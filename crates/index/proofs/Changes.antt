-- Each change of marks keeps the positions of a key's slots once each.
use mathlib.Core.Path.{◌≡◌, refl, sym, ap, ◌∙◌}
use mathlib.Core.Bool.{Bool, true, false, cond, ◌&&◌, and-true, and-false}
use mathlib.Core.List.{List, [], ◌∷◌, ◌++◌, map}
use Prim.Native.Nat.{ℕ, suc, ◌+◌, ◌<◌}
use native.Mathlib.Nat.{add-zero, zero-add}
use native.Mathlib.Omega.{arith}
use lib.Dec.{ltb, eqb}
use borrow.Author.Tests.{eqb-true, eqb-false, lt-ltb, le-ltb, eq-eqb, ne_eqb}
use Rattle.lists.specs.Keep.{bit, keep, count}
use Rattle.lists.proofs.Keep.{each-mem, count-append, count_same, count-share, count-implied, count_map}
use Rattle.index.specs.State.{Mark, dead, unkeyed, keyed, Slot, live, with_mark}
use Rattle.index.specs.Step.{holds, holds_at, removed, relabelled, gap_filled, one_more, rising, compacted}
use Rattle.index.specs.Sound.{marks, OnceEach}
use Rattle.lists.proofs.Tests.{and_left}
use Rattle.index.proofs.Marks.{below_suc}

-- ---- counts of a key's slots whose position passes a test: `holds` and `holds_at` are two of these

abbrev pub holds_if : (key : ℕ) → (ℕ → Bool) → Mark → Bool
holds_if k q (dead u) = false
holds_if k q (unkeyed u) = false
holds_if k q (keyed j p) = eqb j k && q p

abbrev Any : ℕ → Bool
Any p = true

module _ (ms : List Mark) where
  count-any : (k : ℕ) → count (holds_if k Any) ms ≡ count (holds k) ms
  count-any k = count_same (holds_if k Any) (holds k) ms (each-mem (λ m. holds_if k Any m ≡ holds k m) ms (λ m e. at m))
    where
      at : (m : Mark) → holds_if k Any m ≡ holds k m
      at (dead u) = refl
      at (unkeyed u) = refl
      at (keyed j p) = and-true (eqb j k)

  count_at : (k p : ℕ) → count (holds_if k (λ i. eqb i p)) ms ≡ count (holds_at k p) ms
  count_at k p = count_same (holds_if k (λ i. eqb i p)) (holds_at k p) ms (each-mem (λ m. holds_if k (λ i. eqb i p) m ≡ holds_at k p m) ms (λ m e. at m))
    where
      at : (m : Mark) → holds_if k (λ i. eqb i p) m ≡ holds_at k p m
      at (dead u) = refl
      at (unkeyed u) = refl
      at (keyed j i) = refl

  -- a test that passes nowhere
  count-never : (q : Mark → Bool) → ((m : Mark) → q m ≡ false) → count q ms ≡ 0
  count-never q h = go ms
    where
      go : (ns : List Mark) → count q ns ≡ 0
      go [] = refl
      go (m ∷ ns) = omega (arith, ap bit (h m), go ns)

-- once each, said of counts that are the same
once-same : (ms ns : List Mark) (k j : ℕ) → OnceEach ms → ((q : ℕ → Bool) → count (holds_if k q) ns ≡ count (holds_if j q) ms) → (p : ℕ) → count (holds_at k p) ns ≡ bit (ltb p (count (holds k) ns))
once-same ms ns k j once e p =
    rw (← count_at ns k p, ← count-any ns k, e (λ i. eqb i p), e Any, count_at ms j p, count-any ms j) (once j p)

once-none : (ns : List Mark) (k : ℕ) → ((q : ℕ → Bool) → count (holds_if k q) ns ≡ 0) → (p : ℕ) → count (holds_at k p) ns ≡ bit (ltb p (count (holds k) ns))
once-none ns k e p = rw (← count_at ns k p, ← count-any ns k, e (λ i. eqb i p), e Any, le-ltb p 0 (omega arith))

swap : (a b : ℕ) → eqb a b ≡ eqb b a
swap a b = at (eqb b a) refl
  where
    at : (c : Bool) → eqb b a ≡ c → eqb a b ≡ c
    at true e = eq-eqb a b (sym (eqb-true b a e))
    at false e = ne_eqb a b (λ f. eqb-false b a e (sym f))

-- ---- one more slot

module _ (ms : List Mark) (once : OnceEach ms) where
  count-more : (q : Mark → Bool) (m : Mark) → count q (ms ++ (m ∷ [])) ≡ count q ms + bit (q m)
  count-more q m = count-append q ms (m ∷ []) ∙ omega arith

  pub once-unkeyed : (u : ℕ) → OnceEach (ms ++ (unkeyed u ∷ []))
  once-unkeyed u k p = rw (count-more (holds_at k p) (unkeyed u), count-more (holds k) (unkeyed u)) (simp add-zero (once k p))

  pub once-keyed : (j : ℕ) → OnceEach (ms ++ (keyed j (count (holds j) ms) ∷ []))
  once-keyed j k p = rw (count-more (holds_at k p) (keyed j (count (holds j) ms)), count-more (holds k) (keyed j (count (holds j) ms))) (go (eqb j k) refl)
    where
      go : (b : Bool) → eqb j k ≡ b → count (holds_at k p) ms + bit (b && eqb (count (holds j) ms) p) ≡ bit (ltb p (count (holds k) ms + bit b))
      go true e =
          let t : count (holds k) ms + 1 ≡ suc (count (holds k) ms) = omega arith in
          rw (eqb-true j k e, t, swap (count (holds k) ms) p) (omega (arith, once k p, below_suc p (count (holds k) ms)))
      go false e = simp add-zero (once k p)

  -- counts of a changed list, slot by slot
  counts_same : (f : Mark → Mark) (k : ℕ) → ((m : Mark) (q : ℕ → Bool) → holds_if k q (f m) ≡ holds_if k q m) → (q : ℕ → Bool) → count (holds_if k q) (map f ms) ≡ count (holds_if k q) ms
  counts_same f k e q = count_map f (holds_if k q) ms ∙ count_same (λ m. holds_if k q (f m)) (holds_if k q) ms (each-mem (λ m. holds_if k q (f m) ≡ holds_if k q m) ms (λ m i. e m q))

  counts-none : (f : Mark → Mark) (k : ℕ) → ((m : Mark) (q : ℕ → Bool) → holds_if k q (f m) ≡ false) → (q : ℕ → Bool) → count (holds_if k q) (map f ms) ≡ 0
  counts-none f k e q = count_map f (holds_if k q) ms ∙ count-never ms (λ m. holds_if k q (f m)) (λ m. e m q)

  -- ---- removal of a whole key

  pub once-removed : (j : ℕ) → OnceEach (map (removed j) ms)
  once-removed j k = go (eqb k j) refl
    where
      gone : k ≡ j → (m : Mark) (q : ℕ → Bool) → holds_if k q (removed j m) ≡ false
      gone e (dead u) q = refl
      gone e (unkeyed u) q = refl
      gone e (keyed i p) q = at (eqb i j) refl
        where
          at : (b : Bool) → eqb i j ≡ b → holds_if k q (cond b (dead i) (keyed i p)) ≡ false
          at true f = refl
          at false f = rw (e, f)

      kept : (k ≡ j → ⊥) → (m : Mark) (q : ℕ → Bool) → holds_if k q (removed j m) ≡ holds_if k q m
      kept e (dead u) q = refl
      kept e (unkeyed u) q = refl
      kept e (keyed i p) q = at (eqb i j) refl
        where
          at : (b : Bool) → eqb i j ≡ b → holds_if k q (cond b (dead i) (keyed i p)) ≡ holds_if k q (keyed i p)
          at true f = rw (ne_eqb i k (λ g. e (sym g ∙ eqb-true i j f)))
          at false f = refl

      go : (b : Bool) → eqb k j ≡ b → (p : ℕ) → count (holds_at k p) (map (removed j) ms) ≡ bit (ltb p (count (holds k) (map (removed j) ms)))
      go true e = once-none (map (removed j) ms) k (counts-none (removed j) k (gone (eqb-true k j e)))
      go false e = once-same ms (map (removed j) ms) k k once (counts_same (removed j) k (kept (eqb-false k j e)))

  -- ---- a key's slots under another key

  pub once-relabelled-same : (j : ℕ) → OnceEach (map (relabelled j j) ms)
  once-relabelled-same j k = once-same ms (map (relabelled j j) ms) k k once (counts_same (relabelled j j) k at)
    where
      at : (m : Mark) (q : ℕ → Bool) → holds_if k q (relabelled j j m) ≡ holds_if k q m
      at (dead u) q = refl
      at (unkeyed u) q = refl
      at (keyed i p) q = go (eqb i j) refl
        where
          go : (b : Bool) → eqb i j ≡ b → holds_if k q (cond b (keyed j p) (keyed i p)) ≡ holds_if k q (keyed i p)
          go true e = rw (eqb-true i j e)
          go false e = refl

  module _ (j n : ℕ) (other : j ≡ n → ⊥) (free : count (holds n) ms ≡ 0) where
    free-if : (q : ℕ → Bool) → count (holds_if n q) ms ≡ 0
    free-if q = omega (arith, count-implied (holds_if n q) (holds n) ms at)
      where
        at : (m : Mark) → holds_if n q m ≡ true → holds n m ≡ true
        at (dead u) e = e
        at (unkeyed u) e = e
        at (keyed i p) e = and_left (eqb i n) (q p) e

    taken : (m : Mark) (q : ℕ → Bool) → bit (holds_if n q (relabelled j n m)) ≡ bit (holds_if j q m) + bit (holds_if n q m)
    taken (dead u) q = refl
    taken (unkeyed u) q = refl
    taken (keyed i p) q = go (eqb i j) refl
      where
        go : (b : Bool) → eqb i j ≡ b → bit (holds_if n q (cond b (keyed n p) (keyed i p))) ≡ bit (b && q p) + bit (eqb i n && q p)
        go true e = rw (eq-eqb n n refl, ne_eqb i n (λ f. other (sym (eqb-true i j e) ∙ f))) (omega arith)
        go false e = omega arith

    left : (k : ℕ) → (k ≡ n → ⊥) → k ≡ j → (m : Mark) (q : ℕ → Bool) → holds_if k q (relabelled j n m) ≡ false
    left k kn kj (dead u) q = refl
    left k kn kj (unkeyed u) q = refl
    left k kn kj (keyed i p) q = go (eqb i j) refl
      where
        go : (b : Bool) → eqb i j ≡ b → holds_if k q (cond b (keyed n p) (keyed i p)) ≡ false
        go true e = rw (ne_eqb n k (λ f. kn (sym f)))
        go false e = rw (kj, e)

    untouched : (k : ℕ) → (k ≡ n → ⊥) → (k ≡ j → ⊥) → (m : Mark) (q : ℕ → Bool) → holds_if k q (relabelled j n m) ≡ holds_if k q m
    untouched k kn kj (dead u) q = refl
    untouched k kn kj (unkeyed u) q = refl
    untouched k kn kj (keyed i p) q = go (eqb i j) refl
      where
        go : (b : Bool) → eqb i j ≡ b → holds_if k q (cond b (keyed n p) (keyed i p)) ≡ holds_if k q (keyed i p)
        go true e = rw (ne_eqb n k (λ f. kn (sym f)), ne_eqb i k (λ f. kj (sym f ∙ eqb-true i j e)))
        go false e = refl

    pub once-relabelled : OnceEach (map (relabelled j n) ms)
    once-relabelled k = go (eqb k n) (eqb k j) refl refl
      where
        go : (b c : Bool) → eqb k n ≡ b → eqb k j ≡ c → (p : ℕ) → count (holds_at k p) (map (relabelled j n) ms) ≡ bit (ltb p (count (holds k) (map (relabelled j n) ms)))
        go true c e f =
            rw (eqb-true k n e)
            (once-same ms (map (relabelled j n) ms) n j once
            (λ q. count_map (relabelled j n) (holds_if n q) ms ∙ count-share (λ m. holds_if n q (relabelled j n m)) (holds_if j q) (holds_if n q) ms (λ m. taken m q) ∙ omega (arith, free-if q)))
        go false true e f = once-none (map (relabelled j n) ms) k (counts-none (relabelled j n) k (left k (eqb-false k n e) (eqb-true k j f)))
        go false false e f = once-same ms (map (relabelled j n) ms) k k once (counts_same (relabelled j n) k (untouched k (eqb-false k n e) (eqb-false k j f)))

  -- ---- one slot of a key removed, the last held moved to the gap

  module _ (j gap last : ℕ) (here : gap < count (holds j) ms) (top : suc last ≡ count (holds j) ms) where
    held-once : (p : ℕ) → p < count (holds j) ms → count (holds_at j p) ms ≡ 1
    held-once p l = once j p ∙ ap bit (lt-ltb p (count (holds j) ms) l)

    -- of slots that one passes, those that pass as well where b
    one-and : (q : Mark → Bool) (b : Bool) → count q ms ≡ 1 → count (λ m. q m && b) ms ≡ bit b
    one-and q true e = count_same (λ m. q m && true) q ms (each-mem (λ m. (q m && true) ≡ q m) ms (λ m i. and-true (q m))) ∙ e
    one-and q false e = count-never ms (λ m. q m && false) (λ m. and-false (q m))

    balance : (a b c d e : Mark → Bool) → ((m : Mark) → bit (a m) + bit (b m) + bit (c m) ≡ bit (d m) + bit (e m)) → count a ms + count b ms + count c ms ≡ count d ms + count e ms
    balance a b c d e h = go ms
      where
        go : (ns : List Mark) → count a ns + count b ns + count c ns ≡ count d ns + count e ns
        go [] = refl
        go (m ∷ ns) = omega (arith, h m, go ns)

    -- where the gap is the last, its slot goes
    dies : gap ≡ last → (m : Mark) (q : ℕ → Bool) → bit (holds_if j q m) ≡ bit (holds_if j q (gap_filled j gap last m)) + bit (holds_at j gap m && q gap)
    dies g (dead u) q = refl
    dies g (unkeyed u) q = refl
    dies g (keyed i p) q = at (eqb i j) (eqb p gap) refl refl
      where
        at : (b x : Bool) → eqb i j ≡ b → eqb p gap ≡ x →
            bit (b && q p) ≡ bit (holds_if j q (cond b (cond x (dead i) (cond (eqb p last) (keyed i gap) (keyed i p))) (keyed i p))) + bit ((b && x) && q gap)
        at true true e f = rw (eqb-true p gap f) (omega arith)
        at true false e f = rw (← g, f, e) (omega arith)
        at false x e f = rw e (omega arith)

    -- else the last takes its position
    moves : (gap ≡ last → ⊥) → (m : Mark) (q : ℕ → Bool) →
        bit (holds_if j q (gap_filled j gap last m)) + bit (holds_at j gap m && q gap) + bit (holds_at j last m && q last) ≡ bit (holds_if j q m) + bit (holds_at j last m && q gap)
    moves g (dead u) q = refl
    moves g (unkeyed u) q = refl
    moves g (keyed i p) q = at (eqb i j) (eqb p gap) (eqb p last) refl refl refl
      where
        at : (b x y : Bool) → eqb i j ≡ b → eqb p gap ≡ x → eqb p last ≡ y →
            bit (holds_if j q (cond b (cond x (dead i) (cond y (keyed i gap) (keyed i p))) (keyed i p))) + bit ((b && x) && q gap) + bit ((b && y) && q last) ≡ bit (b && q p) + bit ((b && y) && q gap)
        at true true true e f h = absurd (g (sym (eqb-true p gap f) ∙ eqb-true p last h))
        at true true false e f h = rw (eqb-true p gap f) (omega arith)
        at true false true e f h = rw (e, eqb-true p last h) (omega arith)
        at true false false e f h = rw e (omega arith)
        at false x y e f h = rw e (omega arith)

    -- either way the last position is free
    freed : (q : ℕ → Bool) → count (holds_if j q) (map (gap_filled j gap last) ms) + bit (q last) ≡ count (holds_if j q) ms
    freed q = rw (count_map (gap_filled j gap last) (holds_if j q) ms) (go (eqb gap last) refl)
      where
        go : (b : Bool) → eqb gap last ≡ b → count (λ m. holds_if j q (gap_filled j gap last m)) ms + bit (q last) ≡ count (holds_if j q) ms
        go true e =
            let g : gap ≡ last = eqb-true gap last e in
            sym (count-share (holds_if j q) (λ m. holds_if j q (gap_filled j gap last m)) (λ m. holds_at j gap m && q gap) ms (λ m. dies g m q) ∙
            ap (λ (n : ℕ). count (λ m. holds_if j q (gap_filled j gap last m)) ms + n) (one-and (holds_at j gap) (q gap) (held-once gap here) ∙ ap (λ (i : ℕ). bit (q i)) g))
        go false e =
            omega (
              arith,
              balance (λ m. holds_if j q (gap_filled j gap last m)) (λ m. holds_at j gap m && q gap) (λ m. holds_at j last m && q last) (holds_if j q) (λ m. holds_at j last m && q gap) (λ m. moves (eqb-false gap last e) m q),
              one-and (holds_at j gap) (q gap) (held-once gap here),
              one-and (holds_at j last) (q last) (held-once last (omega arith)),
              one-and (holds_at j last) (q gap) (held-once last (omega arith)),
            )

    apart : (k : ℕ) → (k ≡ j → ⊥) → (m : Mark) (q : ℕ → Bool) → holds_if k q (gap_filled j gap last m) ≡ holds_if k q m
    apart k kj (dead u) q = refl
    apart k kj (unkeyed u) q = refl
    apart k kj (keyed i p) q = at (eqb i j) (eqb p gap) (eqb p last) refl
      where
        at : (b x y : Bool) → eqb i j ≡ b → holds_if k q (cond b (cond x (dead i) (cond y (keyed i gap) (keyed i p))) (keyed i p)) ≡ holds_if k q (keyed i p)
        at true true y e = rw (ne_eqb i k (λ f. kj (sym f ∙ eqb-true i j e)))
        at true false true e = rw (ne_eqb i k (λ f. kj (sym f ∙ eqb-true i j e)))
        at true false false e = refl
        at false x y e = refl

    pub once-filled : OnceEach (map (gap_filled j gap last) ms)
    once-filled k = go (eqb k j) refl
      where
        go : (b : Bool) → eqb k j ≡ b → (p : ℕ) → count (holds_at k p) (map (gap_filled j gap last) ms) ≡ bit (ltb p (count (holds k) (map (gap_filled j gap last) ms)))
        go true e p =
            let few : count (holds j) (map (gap_filled j gap last) ms) ≡ last = omega (arith, freed Any, count-any ms j, count-any (map (gap_filled j gap last) ms) j) in
            rw (eqb-true k j e, few)
            (omega (arith, freed (λ i. eqb i p), count_at ms j p, count_at (map (gap_filled j gap last) ms) j p, once j p ∙ ap (λ (n : ℕ). bit (ltb p n)) (sym top), below_suc p last, ap bit (swap last p)))
        go false e p = once-same ms (map (gap_filled j gap last) ms) k k once (counts_same (gap_filled j gap last) k (apart k (eqb-false k j e))) p

-- ---- compaction

more-bit : (k j : ℕ) (seen : ℕ → ℕ) → one_more j seen k ≡ seen k + bit (eqb j k)
more-bit k j seen = go (eqb j k)
  where
    go : (b : Bool) → cond b (suc (seen k)) (seen k) ≡ seen k + bit b
    go true = omega arith
    go false = omega arith

-- the positions of a key from the number of those seen on
rising-at : (k p : ℕ) (seen : ℕ → ℕ) (ss : List Slot) → count (holds_at k p) (marks (rising seen ss)) + bit (ltb p (seen k)) ≡ bit (ltb p (seen k + count (holds k) (marks ss)))
unfolding rising
rising-at k p seen [] = rw (add-zero (seen k)) (omega arith)
rising-at k p seen (s ∷ ss) = go s.mark (λ next. rising-at k p next ss)
  where
    go : (m : Mark) → ((next : ℕ → ℕ) → count (holds_at k p) (marks (rising next ss)) + bit (ltb p (next k)) ≡ bit (ltb p (next k + count (holds k) (marks ss)))) →
        count (holds_at k p) (marks (rising seen (with_mark s m ∷ ss))) + bit (ltb p (seen k)) ≡ bit (ltb p (seen k + (bit (holds k m) + count (holds k) (marks ss))))
    go (dead u) ih = rw (zero-add (count (holds k) (marks ss))) (omega (arith, ih seen))
    go (unkeyed u) ih = rw (zero-add (count (holds k) (marks ss))) (omega (arith, ih seen))
    go (keyed j q) ih = at (eqb j k) refl (ih (one_more j seen))
      where
        at : (b : Bool) → eqb j k ≡ b → count (holds_at k p) (marks (rising (one_more j seen) ss)) + bit (ltb p (one_more j seen k)) ≡ bit (ltb p (one_more j seen k + count (holds k) (marks ss))) →
            bit (b && eqb (seen j) p) + count (holds_at k p) (marks (rising (one_more j seen) ss)) + bit (ltb p (seen k)) ≡ bit (ltb p (seen k + (bit b + count (holds k) (marks ss))))
        at true e h =
            let n : ℕ = count (holds k) (marks ss) in
            let one : one_more j seen k ≡ suc (seen k) = more-bit k j seen ∙ omega (arith, ap bit e) in
            let sum : seen k + (1 + n) ≡ suc (seen k) + n = omega arith in
            rw sum (omega (arith, rw one at h, below_suc p (seen k), ap bit (swap (seen k) p), ap (λ (i : ℕ). bit (eqb (seen i) p)) (eqb-true j k e)))
        at false e h =
            let n : ℕ = count (holds k) (marks ss) in
            let one : one_more j seen k ≡ seen k = more-bit k j seen ∙ omega (arith, ap bit e) in
            let sum : seen k + (0 + n) ≡ seen k + n = omega arith in
            rw sum (omega (arith, rw one at h))

rising-holds : (k : ℕ) (seen : ℕ → ℕ) (ss : List Slot) → count (holds k) (marks (rising seen ss)) ≡ count (holds k) (marks ss)
unfolding rising
rising-holds k seen [] = refl
rising-holds k seen (s ∷ ss) = go s.mark (λ next. rising-holds k next ss)
  where
    go : (m : Mark) → ((next : ℕ → ℕ) → count (holds k) (marks (rising next ss)) ≡ count (holds k) (marks ss)) →
        count (holds k) (marks (rising seen (with_mark s m ∷ ss))) ≡ bit (holds k m) + count (holds k) (marks ss)
    go (dead u) ih = rw (ih seen)
    go (unkeyed u) ih = rw (ih seen)
    go (keyed j p) ih = rw (ih (one_more j seen))

pub once-compacted : (ss : List Slot) → OnceEach (marks (compacted ss))
unfolding compacted
once-compacted ss k p =
    rw (rising-holds k (λ i. 0) (keep live ss))
    (omega (arith, rw (zero-add (count (holds k) (marks (keep live ss)))) at (rising-at k p (λ i. 0) (keep live ss)), ap bit (le-ltb p 0 (omega arith))))
