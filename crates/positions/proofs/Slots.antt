-- Positions by slot number are positions of the list of rows.
use mathlib.Core.Path.{◌≡◌, refl, sym, ap, ◌∙◌, subst}
use mathlib.Core.Bool.{Bool, true, false}
use mathlib.Core.Logic.{⊎_elim}
use mathlib.Core.List.Memᴰ
use mathlib.Core.List.{List, [], ◌∷◌, ◌++◌, Memᴰ}
use Prim.Native.Nat.{ℕ, zero, suc, ◌+◌, ◌≤◌, ◌<◌}
use native.Mathlib.Nat.{eq-or-lt_of_le, le_of_suc-le-suc, eq-zero-or-pos}
use native.Mathlib.Omega.{arith}
use borrow.Author.Tests.{leb-true, le-leb}
use Rattle.lists.specs.Lists.{tab}
use Rattle.lists.specs.Keep.{bit, count, all}
use Rattle.lists.proofs.Keep.{count-append}
use Rattle.index.specs.Fit.{Row, of_key_at, positioned}
use Rattle.positions.specs.Decides.{Decides}
use Rattle.positions.specs.Ordered.{Keys, Room, Holds, Ordered}
use Rattle.positions.specs.Positions.{has_room, row_of, rows_of, positions_fit}
use Rattle.positions.proofs.Decides.{decided, decides-true, decides-beside, same}
use Rattle.lists.proofs.Tests.{and_left, and_right}
use Rattle.positions.proofs.Tests.{both, each, nothing, also, all-mem, mem-all}
use Rattle.positions.proofs.Consecutive.{Consecutive, of_key_at-parts, of_key_at-made, consecutive}

module _ {X : Type 0} (f : ℕ → X) where
  pub mem-tab : (n : ℕ) {x : X} → Memᴰ x (tab f n) → (i : ℕ) × (i < n) × (x ≡ f i)
  mem-tab zero m = absurd (Memᴰ.not-nil m)
  mem-tab (suc n) m =
      ⊎_elim
      (λ h. let r = mem-tab n h in (r.0, omega (arith, r.1), r.2))
      (λ h. (n, omega arith, Memᴰ.eq_of_singleton h))
      (Memᴰ.append_cases (tab f n) m)

  pub tab-mem : (n i : ℕ) → i < n → Memᴰ (f i) (tab f n)
  tab-mem zero i l = absurd (omega arith)
  tab-mem (suc n) i l =
      ⊎_elim
      (λ (e : i ≡ n). subst (λ x. Memᴰ (f x) (tab f (suc n))) (sym e) (mem-last (tab f n)))
      (λ (m : i < n). mem-early (tab f n) (tab-mem n i m))
      (eq-or-lt_of_le (le_of_suc-le-suc l))
    where
      mem-last : (xs : List X) → Memᴰ (f n) (xs ++ (f n ∷ []))
      mem-last [] = Memᴰ.head refl
      mem-last (x ∷ xs) = Memᴰ.tail (mem-last xs)

      mem-early : {x : X} (xs : List X) → Memᴰ x xs → Memᴰ x (xs ++ (f n ∷ []))
      mem-early [] m = elim m [ ]
      mem-early (y ∷ ys) (Memᴰ.head e) = Memᴰ.head e
      mem-early (y ∷ ys) (Memᴰ.tail m) = Memᴰ.tail (mem-early ys m)

module _ {X : Type 0} (p : X → Bool) (f : ℕ → X) where
  -- all of the first n pass
  pub all-tab : (n : ℕ) → ((i : ℕ) → i < n → p (f i) ≡ true) → all p (tab f n) ≡ true
  all-tab n h = mem-all p (tab f n) (λ x m. let t = mem-tab f n m in ap p t.2 ∙ h t.0 t.1)

  pub tab-all : (n i : ℕ) → all p (tab f n) ≡ true → i < n → p (f i) ≡ true
  tab-all n i h l = all-mem p (tab-mem f n i l) h

  pub count-last : (n : ℕ) → count p (tab f (suc n)) ≡ count p (tab f n) + bit (p (f n))
  count-last n = omega (arith, count-append p (tab f n) (f n ∷ []))

  -- some of the first n pass just where one of them does
  pub count_at : (n i : ℕ) → i < n → p (f i) ≡ true → 0 < count p (tab f n)
  count_at zero i l e = absurd (omega arith)
  count_at (suc n) i l e =
      ⊎_elim
      (λ (d : i ≡ n). omega (arith, count-last n, ap bit (rw d at e)))
      (λ (m : i < n). omega (arith, count-last n, count_at n i m e))
      (eq-or-lt_of_le (le_of_suc-le-suc l))

  pub at_count : (n : ℕ) → 0 < count p (tab f n) → (i : ℕ) × (i < n) × (p (f i) ≡ true)
  at_count zero l = absurd (omega arith)
  at_count (suc n) l = go (p (f n)) refl (at_count n)
    where
      go : (b : Bool) → p (f n) ≡ b → (0 < count p (tab f n) → (i : ℕ) × (i < n) × (p (f i) ≡ true)) → (i : ℕ) × (i < suc n) × (p (f i) ≡ true)
      go true e ih = (n, omega arith, e)
      go false e ih = let r = ih (omega (arith, count-last n, ap bit e)) in (r.0, omega (arith, r.1), r.2)

  -- at most one passes just where none passes after another
  pub count-once : (n : ℕ) → ((i j : ℕ) → i < j → j < n → p (f i) ≡ true → p (f j) ≡ true → ⊥) → count p (tab f n) ≤ 1
  count-once zero h = omega arith
  count-once (suc n) h = go (p (f n)) refl (count-once n (λ i j l m. h i j l (omega arith)))
    where
      go : (b : Bool) → p (f n) ≡ b → count p (tab f n) ≤ 1 → count p (tab f (suc n)) ≤ 1
      go true e ih =
          ⊎_elim
          (λ z. omega (arith, count-last n, ap bit e))
          (λ l. let r = at_count n l in absurd (h r.0 n r.1 (omega arith) r.2 e))
          (eq-zero-or-pos (count p (tab f n)))
      go false e ih = omega (arith, count-last n, ap bit e)

  pub once-count : (n i j : ℕ) → count p (tab f n) ≤ 1 → i < j → j < n → p (f i) ≡ true → p (f j) ≡ true → ⊥
  once-count zero i j h l m e g = omega arith
  once-count (suc n) i j h l m e g =
      ⊎_elim
      (λ (d : j ≡ n). omega (arith, count-last n, ap bit (rw d at g), count_at n i (omega arith) e))
      (λ (k : j < n). once-count n i j (omega (arith, count-last n)) l k e g)
      (eq-or-lt_of_le (le_of_suc-le-suc m))

pub count-tab : {X Y : Type 0} (p : X → Bool) (q : Y → Bool) (f : ℕ → X) (g : ℕ → Y) (n : ℕ) → ((i : ℕ) → p (f i) ≡ q (g i)) → count p (tab f n) ≡ count q (tab g n)
count-tab p q f g zero h = refl
count-tab p q f g (suc n) h = omega (arith, count-last p f n, count-last q g n, ap bit (h n), count-tab p q f g n h)

-- ---- the rows of arrays of keys, with any live marks

module _ (a : Keys) (marks : ℕ → ℕ) where
  module _ (k p i : ℕ) where
    row-of_key_at : Holds a k p i → of_key_at k p (row_of a marks i) ≡ true
    row-of_key_at h = of_key_at-made k (row_of a marks i) p h.keyed h.key h.position

    of_key_at-row : of_key_at k p (row_of a marks i) ≡ true → Holds a k p i
    of_key_at-row e = let u = of_key_at-parts k (row_of a marks i) p e in record { keyed = u.0; key = u.1; position = u.2 }

  module _ (n : ℕ) where
    ordered-next : Ordered a n → (k p : ℕ) → 0 < count (of_key_at k (suc p)) (rows_of a marks n) → 0 < count (of_key_at k p) (rows_of a marks n)
    ordered-next o k p l =
        let r = at_count (of_key_at k (suc p)) (row_of a marks) n l in
        let s = o.next r.0 r.1 k p (of_key_at-row k (suc p) r.0 r.2) in
        count_at (of_key_at k p) (row_of a marks) n s.0 s.1 (row-of_key_at k p s.0 s.2)

    ordered-consecutive : Ordered a n → Consecutive (rows_of a marks n)
    ordered-consecutive o =
        record {
          once = λ k p. count-once (of_key_at k p) (row_of a marks) n (λ i j l m e g. (o.new j m).once i k p l (of_key_at-row k p i e) (of_key_at-row k p j g));
          next = ordered-next o;
          loose = λ r m e.
              let t = mem-tab (row_of a marks) n m in
              ap (λ (x : Row). x.held) t.2 ∙ (o.new t.0 t.1).loose (sym (ap (λ (x : Row). x.keyed) t.2) ∙ e);
        }

    consecutive-ordered : Consecutive (rows_of a marks n) → Ordered a n
    consecutive-ordered c =
        record {
          new = λ j m.
              record {
                once = λ i k p l h g. once-count (of_key_at k p) (row_of a marks) n i j (c.once k p) l m (row-of_key_at k p i h) (row-of_key_at k p j g);
                loose = c.loose (row_of a marks j) (tab-mem (row_of a marks) n j m);
              };
          next = λ j m k p h.
              let r = at_count (of_key_at k p) (row_of a marks) n (c.next k p (count_at (of_key_at k (suc p)) (row_of a marks) n j m (row-of_key_at k (suc p) j h))) in
              (r.0, r.1, of_key_at-row k p r.0 r.2);
        }

    -- positions of rows, and by slot number
    pub rows-ordered : Decides (all (positioned (rows_of a marks n)) (rows_of a marks n)) (Ordered a n)
    rows-ordered =
        let c = consecutive (rows_of a marks n) in
        record { yes = λ e. consecutive-ordered (c.yes e); no = λ e o. c.no e (ordered-consecutive o) }

-- ---- what the program's answer means

module _ (a : Keys) (n : ℕ) where
  room-from : has_room a n ≡ true → Room a n
  unfolding has_room
  room-from h = record { few = leb-true _ _ (each _ 0 h); keys = leb-true _ _ (each _ 1 h); keyed = leb-true _ _ (each _ 2 h); held = leb-true _ _ (each _ 3 h) }

  room-to : Room a n → has_room a n ≡ true
  unfolding has_room
  room-to r = also _ _ (le-leb _ _ r.few) (also _ _ (le-leb _ _ r.keys) (also _ _ (le-leb _ _ r.keyed) (also _ _ (le-leb _ _ r.held) nothing)))

  pub positions-meaning : Decides (positions_fit a n) (Room a n × Ordered a n)
  unfolding positions_fit
  positions-meaning =
      let rs = rows_of a (λ i. 0) n in
      let d = rows-ordered a (λ i. 0) n in
      decided (positions_fit a n)
      (λ e. (room-from (and_left (has_room a n) (all (positioned rs) rs) e), d.yes (and_right (has_room a n) (all (positioned rs) rs) e)))
      (λ p. both (has_room a n) (all (positioned rs) rs) (room-to p.0) (decides-true d p.1))

-- The answer where the arrays have the slots, of the same arrays and slots.
pub answer-fits : {a b : Keys} {m n : ℕ} {r : Bool} → a ≡ b → m ≡ n → Room a m → Decides r (Ordered a m) → r ≡ positions_fit b n
answer-fits e f room d = rw (sym e, sym f) (same _ _ (decides-beside room d) (positions-meaning _ _))
