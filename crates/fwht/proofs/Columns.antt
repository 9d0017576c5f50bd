-- Columns: entries that lie h places apart, read and written.
use mathlib.Core.List.{List, [], ◌∷◌}
use mathlib.Core.Path.{◌≡◌, refl, sym, ap, ◌∙◌}
use Prim.Native.Nat.{ℕ, zero, suc, ◌+◌, ◌*◌, ◌/◌, ◌%◌, ◌<◌}
use native.Mathlib.Nat.{le_of_suc-le-suc, mul-le-mul_right, mod-lt, mod-eq_of_lt, mod-add-div', add-mul-mod_self_right, div-lt_iff_lt-mul}
use native.Mathlib.Omega.{arith}
use lib.ListN.{length, get_or, set, length-set}
use lib.Seq.{ext_get_or, get_or-set_same, get_or-set_other}
use Rattle.fwht.specs.InPlace.{column, put_column}

-- places of two columns are never the same
apart : (h t j q r : ℕ) → t < h → j < h → t + q * h ≡ j + r * h → t ≡ j
apart h t j q r a b e =
    sym (mod-eq_of_lt a) ∙ sym (add-mul-mod_self_right t q h) ∙ ap (λ (x : ℕ). x % h) e ∙ add-mul-mod_self_right j r h ∙ mod-eq_of_lt b

-- each place of a column is one of the m * h
pub place-fits : (h t m q : ℕ) → t < h → q < m → t + q * h < m * h
place-fits h t m q a b = omega (arith, mul-le-mul_right h b)

module _ {A : Type 0} (d : A) where
  pub column-length : (h j m : ℕ) (v : List A) → length (column d h j m v) ≡ m
  column-length h j zero v = refl
  column-length h j (suc m) v = ap suc (column-length h (j + h) m v)

  pub get_or-column : (h j m q : ℕ) (v : List A) → q < m → get_or (column d h j m v) q d ≡ get_or v (j + q * h) d
  get_or-column h j zero q v l = absurd (omega arith)
  get_or-column h j (suc m) zero v l = ap (λ (i : ℕ). get_or v i d) {x = j} (omega arith)
  get_or-column h j (suc m) (suc q) v l =
      get_or-column h (j + h) m q v (le_of_suc-le-suc l) ∙ ap (λ (i : ℕ). get_or v i d) {y = j + suc q * h} (omega arith)

  pub put-length : (h j : ℕ) (xs v : List A) → length (put_column h j xs v) ≡ length v
  put-length h j [] v = refl
  put-length h j (x ∷ xs) v = put-length h (j + h) xs (set v j x) ∙ length-set v j x

  put_other : (h j i : ℕ) (xs v : List A) → ((q : ℕ) → i ≡ j + q * h → ⊥) → get_or (put_column h j xs v) i d ≡ get_or v i d
  put_other h j i [] v n = refl
  put_other h j i (x ∷ xs) v n =
      put_other h (j + h) i xs (set v j x) (λ q e. n (suc q) (omega arith)) ∙ get_or-set_other v j i x d (λ e. n 0 (omega arith))

  put_same : (h j q : ℕ) (xs v : List A) → 0 < h → q < length xs → j + q * h < length v → get_or (put_column h j xs v) (j + q * h) d ≡ get_or xs q d
  put_same h j q [] v p l u = absurd (omega arith)
  put_same h j zero (x ∷ xs) v p l u =
      let e : j + zero * h ≡ j = omega arith in
      rw e (put_other h (j + h) j xs (set v j x) (λ q f. omega arith) ∙ get_or-set_same v j x d (omega arith))
  put_same h j (suc q) (x ∷ xs) v p l u =
      let e : j + suc q * h ≡ j + h + q * h = omega arith in
      rw e (put_same h (j + h) q xs (set v j x) p (le_of_suc-le-suc l) (rw length-set (omega arith)))

  -- a column written reads back, and every other one is kept
  pub put-here : (h j m : ℕ) (xs v : List A) → length xs ≡ m → j < h → length v ≡ m * h → column d h j m (put_column h j xs v) ≡ xs
  put-here h j m xs v s l e =
      ext_get_or d _ _ (column-length h j m _ ∙ sym s)
      (λ q k. let k' : q < m = rw column-length at k in
      get_or-column h j m q _ k' ∙ put_same h j q xs v (omega arith) (omega arith) (rw e (place-fits h j m q l k')))

  pub put-elsewhere : (h j t m : ℕ) (xs v : List A) → j < h → t < h → (t ≡ j → ⊥) → column d h t m (put_column h j xs v) ≡ column d h t m v
  put-elsewhere h j t m xs v a b n =
      ext_get_or d _ _ (column-length h t m _ ∙ sym (column-length h t m v))
      (λ q k. let k' : q < m = rw column-length at k in
      get_or-column h t m q _ k' ∙ put_other h j (t + q * h) xs v (λ r e. n (apart h t j q r b a e)) ∙ sym (get_or-column h t m q v k'))

  -- two lists of m * h places whose columns are the same
  pub columns-ext : (h m : ℕ) (v w : List A) → 0 < h → length v ≡ m * h → length w ≡ m * h → ((t : ℕ) → t < h → column d h t m v ≡ column d h t m w) → v ≡ w
  columns-ext h m v w p e f same = ext_get_or d v w (e ∙ sym f) at
    where
      at : (i : ℕ) → i < length v → get_or v i d ≡ get_or w i d
      at i l =
          let q : i / h < m = (div-lt_iff_lt-mul p).1 (omega arith) in
          let s : i % h + i / h * h ≡ i = mod-add-div' i h in
          rw (← s) (sym (get_or-column h (i % h) m (i / h) v q) ∙ ap (λ (l : List A). get_or l (i / h) d) (same (i % h) (mod-lt i p)) ∙ get_or-column h (i % h) m (i / h) w q)
