-- A pass entry by entry, over any type of entries: what it leaves in whole blocks of 2 * h places depends on those places alone, and what it leaves in places h apart on those alone.
use mathlib.Core.List.{List, [], ◌++◌}
use mathlib.Core.Path.{◌≡◌, refl, sym, ap, ap₂, ◌∙◌}
use Prim.Native.Nat.{ℕ, zero, suc, ◌+◌, ◌-◌, ◌*◌, ◌/◌, ◌%◌, ◌^◌, ◌≤◌, ◌<◌}
use native.Mathlib.Nat.{lt_of_mul-lt-mul_right, mul-le-mul_right, mul_comm, mod-lt, div-mul-le_self, lt-div-mul-add, div-eq_of_lt, mul-add-div_right, add-mul-div_right, div-div-eq-div-mul, pow-suc}
use native.Mathlib.Decide.{dec_lt}
use native.Mathlib.Omega.{arith}
use lib.ListN.{length, get_or, length-append, get_or-append, get_or-eq_default}
use lib.Seq.{ext_get_or, get_or-append-add}
use Rattle.lists.proofs.Laws.{length-tab, get_or-tab}
use Rattle.fwht.specs.Fwht.{entry, pass}
use Rattle.fwht.specs.InPlace.{column, spans}
use Rattle.fwht.proofs.Columns.{place-fits, column-length, get_or-column}

-- a block that starts among whole blocks of m places ends among them
pub block-fits : (m b c n : ℕ) → n ≡ c * m → b * m < n → b * m + m ≤ n
block-fits m b c n e l =
    let less : b < c = lt_of_mul-lt-mul_right m (omega arith) in
    omega (arith, mul-le-mul_right m less)

-- no odd stretch of h places is the first
odd-reaches : (h i : ℕ) → i / h % 2 ≡ 1 → h ≤ i
odd-reaches h i o = go (dec_lt i h)
  where
    go : Dec (i < h) → h ≤ i
    go (yes l) = absurd (let z : i / h ≡ 0 = div-eq_of_lt l in omega arith)
    go (no l) = omega arith

-- the place h above one in an even stretch of h places is in the same whole block
even-fits : (h i c n : ℕ) → 0 < h → n ≡ c * (h + h) → i < n → i / h % 2 ≡ 0 → i + h < n
even-fits h i c n p e l z =
    let k = i / h / 2 in
    let twice : k + k ≡ i / h = omega arith in
    let start : k * (h + h) ≡ i / h * h = omega (arith, ap (λ (x : ℕ). x * h) twice) in
    omega (arith, block-fits (h + h) k c n e (omega (arith, div-mul-le_self i h)), lt-div-mul-add {a = i} p)

down : (h q s : ℕ) → s ≤ q → (q - s) * h + s * h ≡ q * h
down h q s l = let e : q - s + s ≡ q = omega arith in omega (arith, ap (λ (x : ℕ). x * h) e)

module _ {A : Type 0} (d : A) (plus minus : A → A → A) where
  pub pass-length : (h : ℕ) (v : List A) → length (pass d plus minus h v) ≡ length v
  unfolding pass
  pass-length h v = length-tab _ (length v)

  get_or-pass : (h i : ℕ) (v : List A) → i < length v → get_or (pass d plus minus h v) i d ≡ entry d plus minus h v i
  unfolding pass
  get_or-pass h i v l = get_or-tab _ (length v) i d l

  -- place i of v at the span h and place j of w at the span g: the same half of equal pairs
  module _ (h g i j : ℕ) (v w : List A) (parity : i / h % 2 ≡ j / g % 2) (here : get_or v i d ≡ get_or w j d)
      (above : i / h % 2 ≡ 0 → get_or v (i + h) d ≡ get_or w (j + g) d) (below : h ≤ i → g ≤ j → get_or v (i - h) d ≡ get_or w (j - g) d) where
    entries-agree : entry d plus minus h v i ≡ entry d plus minus g w j
    unfolding entry
    entries-agree = go (i / h % 2) refl (mod-lt (i / h) (omega arith))
      where
        go : (r : ℕ) → i / h % 2 ≡ r → r < 2 → entry d plus minus h v i ≡ entry d plus minus g w j
        go zero e l = rw (← parity, e) (ap₂ plus here (above e))
        go (suc zero) e l = rw (← parity, e) (ap₂ minus (below (odd-reaches h i e) (odd-reaches g j (sym parity ∙ e))) here)
        go (suc (suc r)) e l = absurd (omega arith)

  -- ---- whole blocks

  module _ (h c : ℕ) (a b : List A) (p : 0 < h) (e : length a ≡ c * (h + h)) where
    front : (i : ℕ) → i < length a → entry d plus minus h (a ++ b) i ≡ entry d plus minus h a i
    front i l =
        entries-agree h h i i (a ++ b) a refl (get_or-append a b d i l) (λ z. get_or-append a b d (i + h) (even-fits h i c (length a) p e l z))
        (λ r s. get_or-append a b d (i - h) (omega arith))

    parity : (i : ℕ) → (length a + i) / h % 2 ≡ i / h % 2
    parity i =
        let q : (length a + i) / h ≡ c + c + i / h = ap (λ (x : ℕ). x / h) {y = (c + c) * h + i} (omega arith) ∙ mul-add-div_right p (c + c) i in
        rw q (omega arith)

    back : (i : ℕ) → entry d plus minus h (a ++ b) (length a + i) ≡ entry d plus minus h b i
    back i =
        entries-agree h h (length a + i) i (a ++ b) b (parity i) (get_or-append-add a b i d)
        (λ z. ap (λ (x : ℕ). get_or (a ++ b) x d) {y = length a + (i + h)} (omega arith) ∙ get_or-append-add a b (i + h) d)
        (λ r s. ap (λ (x : ℕ). get_or (a ++ b) x d) {y = length a + (i - h)} (omega arith) ∙ get_or-append-add a b (i - h) d)

    pub pass-append : pass d plus minus h (a ++ b) ≡ pass d plus minus h a ++ pass d plus minus h b
    pass-append = ext_get_or d _ _ (simp (pass-length, length-append)) (λ i l. at i (rw (pass-length h (a ++ b), length-append a b) at l) (dec_lt i (length a)))
      where
        at : (i : ℕ) → i < length a + length b → Dec (i < length a)
            → get_or (pass d plus minus h (a ++ b)) i d ≡ get_or (pass d plus minus h a ++ pass d plus minus h b) i d
        at i l (yes k) =
            get_or-pass h i (a ++ b) (rw length-append l) ∙ front i k ∙ sym (get_or-pass h i a k)
            ∙ sym (get_or-append (pass d plus minus h a) (pass d plus minus h b) d i (rw pass-length k))
        at i l (no k) =
            let s : length a + (i - length a) ≡ i = omega arith in
            rw (← s)
            (get_or-pass h (length a + (i - length a)) (a ++ b) (rw (s, length-append) l) ∙ back (i - length a) ∙ sym (get_or-pass h (i - length a) b (omega arith))
            ∙ sym (get_or-append-add (pass d plus minus h a) (pass d plus minus h b) (i - length a) d)
            ∙ ap (λ (x : ℕ). get_or (pass d plus minus h a ++ pass d plus minus h b) (x + (i - length a)) d) (pass-length h a))

  -- ---- places h apart

  module _ (h t m : ℕ) (v : List A) (l : t < h) (e : length v ≡ m * h) where
    -- at every q: where the column has ended, so has the list
    column-at : (q : ℕ) → get_or v (t + q * h) d ≡ get_or (column d h t m v) q d
    column-at q = go (dec_lt q m)
      where
        go : Dec (q < m) → get_or v (t + q * h) d ≡ get_or (column d h t m v) q d
        go (yes k) = sym (get_or-column d h t m q v k)
        go (no k) =
            let past : m * h ≤ q * h = mul-le-mul_right h (omega arith) in
            get_or-eq_default v d (omega arith) ∙ sym (get_or-eq_default (column d h t m v) d (rw column-length (omega arith)))

    -- the column of the pass at s times the span is the pass at the span s of the column
    pub column-pass : (s : ℕ) → column d h t m (pass d plus minus (s * h) v) ≡ pass d plus minus s (column d h t m v)
    column-pass s = ext_get_or d _ _ (simp (pass-length, column-length)) (λ q k. at q (rw column-length at k))
      where
        stretch : (q : ℕ) → (t + q * h) / (s * h) ≡ q / s
        stretch q =
            ap (λ (x : ℕ). (t + q * h) / x) (mul_comm s h) ∙ sym (div-div-eq-div-mul (t + q * h) h s)
            ∙ ap (λ (x : ℕ). x / s) (add-mul-div_right t q (omega arith) ∙ omega (arith, div-eq_of_lt l))

        at : (q : ℕ) → q < m → get_or (column d h t m (pass d plus minus (s * h) v)) q d ≡ get_or (pass d plus minus s (column d h t m v)) q d
        at q k =
            get_or-column d h t m q (pass d plus minus (s * h) v) k ∙ get_or-pass (s * h) (t + q * h) v (rw e (place-fits h t m q l k))
            ∙ entries-agree (s * h) s (t + q * h) q v (column d h t m v) (ap (λ (x : ℕ). x % 2) (stretch q)) (column-at q)
            (λ z. ap (λ (x : ℕ). get_or v x d) {y = t + (q + s) * h} (omega arith) ∙ column-at (q + s))
            (λ r o. ap (λ (x : ℕ). get_or v x d) {y = t + (q - s) * h} (omega (arith, down h q s o)) ∙ column-at (q - s))
            ∙ sym (get_or-pass s q (column d h t m v) (rw column-length k))

  -- ---- pass after pass

  pub spans-length : (k h : ℕ) (v : List A) → length (spans d plus minus h k v) ≡ length v
  spans-length zero h v = refl
  spans-length (suc k) h v = spans-length k (h + h) (pass d plus minus h v) ∙ pass-length h v

  pub spans-nil : (k h : ℕ) → spans d plus minus h k [] ≡ []
  unfolding pass
  spans-nil zero h = refl
  spans-nil (suc k) h = spans-nil k (h + h)

  pub spans-append : (k h c : ℕ) (a b : List A) → 0 < h → length a ≡ c * (2 ^ k * h) → spans d plus minus h k (a ++ b) ≡ spans d plus minus h k a ++ spans d plus minus h k b
  spans-append zero h c a b p e = refl
  spans-append (suc k) h c a b p e =
      let size : length a ≡ c * (2 ^ k * (h + h)) = e ∙ ap (λ (x : ℕ). c * x) {y = 2 ^ k * (h + h)} (rw (pow-suc 2 k) (omega arith)) in
      ap (spans d plus minus (h + h) k) (pass-append h (c * 2 ^ k) a b p (omega arith))
      ∙ spans-append k (h + h) c (pass d plus minus h a) (pass d plus minus h b) (omega arith) (pass-length h a ∙ size)

  pub column-spans : (k h t m s : ℕ) (v : List A) → t < h → length v ≡ m * h → column d h t m (spans d plus minus (s * h) k v) ≡ spans d plus minus s k (column d h t m v)
  column-spans zero h t m s v l e = refl
  column-spans (suc k) h t m s v l e =
      ap (λ (x : ℕ). column d h t m (spans d plus minus x k (pass d plus minus (s * h) v))) {y = (s + s) * h} (omega arith)
      ∙ column-spans k h t m (s + s) (pass d plus minus (s * h) v) l (pass-length (s * h) v ∙ e)
      ∙ ap (spans d plus minus (s + s) k) (column-pass h t m v l e s)
