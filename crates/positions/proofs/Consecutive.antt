-- Each key's t slots hold the positions 0 to t - 1 once each, just where no position of a key is held twice and each one above 0 has the one before. Over any list of rows.
use mathlib.Core.Path.{◌≡◌, refl, sym, ap, ◌∙◌}
use mathlib.Core.Bool.{Bool, true, false, ◌&&◌, and-false}
use mathlib.Core.Logic.{⊎_elim}
use mathlib.Core.List.{List, [], ◌∷◌, Memᴰ}
use Prim.Native.Nat.{ℕ, zero, suc, ◌+◌, ◌-◌, ◌≤◌, ◌<◌}
use native.Mathlib.Nat.{zero-add, suc-add, eq-zero-or-pos}
use native.Mathlib.Omega.{arith}
use lib.Dec.{ltb, eqb}
use borrow.Author.Tests.{ltb-true, ltb-false, eqb-true, eqb-false, lt-ltb, le-ltb, eq-eqb}
use Rattle.lists.specs.Keep.{bit, count, all}
use Rattle.lists.proofs.Keep.{each-mem, count-implied, count_same, count-share, count_none}
use Rattle.index.specs.Fit.{Row, of_key, of_key_at, positioned}
use Rattle.positions.specs.Decides.{Decides}
use Rattle.positions.proofs.Decides.{decided}
use Rattle.lists.proofs.Tests.{and_left, and_right}
use Rattle.positions.proofs.Tests.{both, all-mem, mem-all}

-- ---- `count` by membership

module _ {X : Type 0} (p : X → Bool) where
  -- where some pass, one of them
  pub count-some : (xs : List X) → 0 < count p xs → (x : X) × Memᴰ x xs × (p x ≡ true)
  count-some [] h = absurd (omega arith)
  count-some (x ∷ xs) h = go (p x) refl (count-some xs)
    where
      go : (b : Bool) → p x ≡ b → (0 < count p xs → (y : X) × Memᴰ y xs × (p y ≡ true)) → (y : X) × Memᴰ y (x ∷ xs) × (p y ≡ true)
      go true e ih = (x, Memᴰ.head refl, e)
      go false e ih = let r = ih (omega (arith, ap bit e)) in (r.0, Memᴰ.tail r.1, r.2)

  pub some-count : {x : X} (xs : List X) → Memᴰ x xs → p x ≡ true → 0 < count p xs
  some-count xs m e = ⊎_elim (λ z. absurd (count_none p m z e)) (λ l. l) (eq-zero-or-pos (count p xs))

-- ---- a row's key and position

module _ (k : ℕ) (r : Row) where
  key-parts : of_key k r ≡ true → (r.keyed ≡ true) × (r.key ≡ k)
  key-parts e = (and_left r.keyed (eqb r.key k) e, eqb-true r.key k (and_right r.keyed (eqb r.key k) e))

  key-made : r.keyed ≡ true → r.key ≡ k → of_key k r ≡ true
  key-made e f = both r.keyed (eqb r.key k) e (eq-eqb _ _ f)

  pub of_key_at-parts : (p : ℕ) → of_key_at k p r ≡ true → (r.keyed ≡ true) × (r.key ≡ k) × (r.held ≡ p)
  of_key_at-parts p e =
      let f = key-parts (and_left (of_key k r) (eqb r.held p) e) in
      (f.0, f.1, eqb-true r.held p (and_right (of_key k r) (eqb r.held p) e))

  pub of_key_at-made : (p : ℕ) → r.keyed ≡ true → r.key ≡ k → r.held ≡ p → of_key_at k p r ≡ true
  of_key_at-made p e f g = both (of_key k r) (eqb r.held p) (key-made e f) (eq-eqb _ _ g)

-- ---- the positions of a key below h

below : ℕ → ℕ → Row → Bool
below k h r = of_key k r && ltb r.held h

-- a position below h + 1 is below h, or it is h
split : (h x : ℕ) → bit (ltb x (suc h)) ≡ bit (ltb x h) + bit (eqb x h)
split h x = go (ltb x h) (eqb x h) refl refl
  where
    go : (b c : Bool) → ltb x h ≡ b → eqb x h ≡ c → bit (ltb x (suc h)) ≡ bit (ltb x h) + bit (eqb x h)
    go true true e f = absurd (omega (arith, ltb-true x h e, eqb-true x h f))
    go true false e f = rw (e, f, lt-ltb x (suc h) (omega (arith, ltb-true x h e)))
    go false true e f = rw (e, f, lt-ltb x (suc h) (omega (arith, eqb-true x h f)))
    go false false e f = rw (e, f, le-ltb x (suc h) (above (ltb-false x h e) (eqb-false x h f)))
      where
        above : h ≤ x → (x ≡ h → ⊥) → suc h ≤ x
        above l n = omega (arith, n)

module _ (k : ℕ) (rs : List Row) where
  below_more : (h : ℕ) → count (below k (suc h)) rs ≡ count (below k h) rs + count (of_key_at k h) rs
  unfolding below
  below_more h = count-share (below k (suc h)) (below k h) (of_key_at k h) rs (λ r. at (of_key k r) r.held)
    where
      at : (b : Bool) (x : ℕ) → bit (b && ltb x (suc h)) ≡ bit (b && ltb x h) + bit (b && eqb x h)
      at true x = split h x
      at false x = refl

  below_key : (h : ℕ) → count (below k h) rs ≤ count (of_key k) rs
  unfolding below
  below_key h = count-implied (below k h) (of_key k) rs (λ r e. and_left (of_key k r) (ltb r.held h) e)

  below_none : count (below k 0) rs ≡ 0
  unfolding below
  below_none = go rs
    where
      go : (xs : List Row) → count (λ r. of_key k r && ltb r.held 0) xs ≡ 0
      go [] = refl
      go (x ∷ xs) = rw (le-ltb x.held 0 (omega arith), and-false (of_key k x)) (omega (arith, go xs))

-- ---- the law

-- no position of a key twice, each position above 0 with the one before, and none but 0 without a key
pub record Consecutive (rs : List Row) : Type 0 where
  pub once : (k p : ℕ) → count (of_key_at k p) rs ≤ 1
  pub next : (k p : ℕ) → 0 < count (of_key_at k (suc p)) rs → 0 < count (of_key_at k p) rs
  pub loose : (r : Row) → Memᴰ r rs → r.keyed ≡ false → r.held ≡ 0

module _ (rs : List Row) where
  -- a keyed row's two tests
  keyed-test : (r : Row) → r.keyed ≡ true → positioned rs r ≡ (ltb r.held (count (of_key r.key) rs) && eqb (count (of_key_at r.key r.held) rs) 1)
  unfolding positioned
  keyed-test r e = rw e

  loose-test : (r : Row) → r.keyed ≡ false → positioned rs r ≡ eqb r.held 0
  unfolding positioned
  loose-test r e = rw e

  module _ (next : (k p : ℕ) → 0 < count (of_key_at k (suc p)) rs → 0 < count (of_key_at k p) rs) where
    -- a position that is held has all the lower ones below it
    reached : (k h : ℕ) → 0 < count (of_key_at k h) rs → h < count (below k (suc h)) rs
    reached k zero l = omega (arith, below_more k rs 0)
    reached k (suc h) l = omega (arith, below_more k rs (suc h), reached k h (next k h l))

    -- so it is lower than the number of the key's slots
    pub low : (k p : ℕ) → 0 < count (of_key_at k p) rs → p < count (of_key k) rs
    low k p l = omega (arith, reached k p l, below_key k rs (suc p))

  module _ (c : Consecutive rs) where
    consecutive-fits : all (positioned rs) rs ≡ true
    consecutive-fits = mem-all (positioned rs) rs (λ r m. at r m r.keyed refl)
      where
        at : (r : Row) → Memᴰ r rs → (b : Bool) → r.keyed ≡ b → positioned rs r ≡ true
        at r m true e =
            let l = some-count (of_key_at r.key r.held) rs m (of_key_at-made r.key r r.held e refl refl) in
            keyed-test r e ∙ both _ _ (lt-ltb _ _ (low c.next r.key r.held l)) (eq-eqb (count (of_key_at r.key r.held) rs) 1 (omega (arith, l, c.once r.key r.held)))
        at r m false e = loose-test r e ∙ eq-eqb _ _ (c.loose r m e)

  module _ (f : all (positioned rs) rs ≡ true) where
    -- what the test says of a row that of_key_at a position
    held-parts : (k p : ℕ) (r : Row) → Memᴰ r rs → of_key_at k p r ≡ true → (p < count (of_key k) rs) × (count (of_key_at k p) rs ≡ 1)
    held-parts k p r m e =
        let u = of_key_at-parts k r p e in
        let t = sym (keyed-test r u.0) ∙ all-mem (positioned rs) m f in
        let x = ltb r.held (count (of_key r.key) rs) in
        let y = eqb (count (of_key_at r.key r.held) rs) 1 in (
          rw (u.1, u.2) at (ltb-true r.held (count (of_key r.key) rs) (and_left x y t)),
          rw (u.1, u.2) at (eqb-true (count (of_key_at r.key r.held) rs) 1 (and_right x y t)),
        )

    at-most-once : (k p : ℕ) → count (of_key_at k p) rs ≤ 1
    at-most-once k p =
        ⊎_elim (λ z. omega arith) (λ l. let s = count-some (of_key_at k p) rs l in omega (arith, (held-parts k p s.0 s.1 s.2).1))
        (eq-zero-or-pos (count (of_key_at k p) rs))

    -- without position p fewer than h of the key's slots lie below any h past p
    gap : (k p : ℕ) → count (of_key_at k p) rs ≡ 0 → (d : ℕ) → count (below k (suc (d + p))) rs ≤ d + p
    gap k p z zero = rw (zero-add p) (omega (arith, below_more k rs p, fill k p))
      where
        fill : (k h : ℕ) → count (below k h) rs ≤ h
        fill k zero = omega (arith, below_none k rs)
        fill k (suc h) = omega (arith, below_more k rs h, fill k h, at-most-once k h)
    gap k p z (suc d) = rw (suc-add d p) (omega (arith, below_more k rs (suc (d + p)), gap k p z d, at-most-once k (suc (d + p))))

    -- all of a key's slots lie below their number
    full : (k : ℕ) → count (below k (count (of_key k) rs)) rs ≡ count (of_key k) rs
    unfolding below
    full k = count_same (below k (count (of_key k) rs)) (of_key k) rs (each-mem _ rs (λ r m. at r m (of_key k r) refl))
      where
        at : (r : Row) → Memᴰ r rs → (b : Bool) → of_key k r ≡ b → (of_key k r && ltb r.held (count (of_key k) rs)) ≡ of_key k r
        at r m true e =
            let u = key-parts k r e in
            rw (e, lt-ltb _ _ (held-parts k r.held r m (of_key_at-made k r r.held u.0 u.1 refl)).0)
        at r m false e = rw e

    preceded : (k p : ℕ) → 0 < count (of_key_at k (suc p)) rs → 0 < count (of_key_at k p) rs
    preceded k p l =
        ⊎_elim (λ z. absurd (none z)) (λ h. h) (eq-zero-or-pos (count (of_key_at k p) rs))
      where
        none : count (of_key_at k p) rs ≡ 0 → ⊥
        none z =
            let s = count-some (of_key_at k (suc p)) rs l in
            let t = (held-parts k (suc p) s.0 s.1 s.2).0 in
            let e : suc (count (of_key k) rs - suc p + p) ≡ count (of_key k) rs = omega (arith, t) in
            let g = rw e at (gap k p z (count (of_key k) rs - suc p)) in
            omega (arith, g, full k, t)

    fits-consecutive : Consecutive rs
    fits-consecutive =
        record {
          once = at-most-once;
          next = preceded;
          loose = λ r m e. eqb-true _ _ (sym (loose-test r e) ∙ all-mem (positioned rs) m f);
        }

  pub consecutive : Decides (all (positioned rs) rs) (Consecutive rs)
  consecutive = decided (all (positioned rs) rs) fits-consecutive consecutive-fits
