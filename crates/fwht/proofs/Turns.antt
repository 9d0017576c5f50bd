-- The passes over one block, column after column: each column's transform by itself.
use mathlib.Core.List.{List, [], ◌∷◌}
use mathlib.Core.Path.{◌≡◌, refl, sym, ap, ◌∙◌}
use Prim.Native.Nat.{ℕ, zero, suc, ◌*◌, ◌^◌, ◌≤◌, ◌<◌}
use native.Mathlib.Nat.{one-mul, le_refl, le_antisymm, zero-lt-suc}
use native.Mathlib.Decide.{dec_lt}
use native.Mathlib.Omega.{arith}
use lib.ListN.{length}
use Rattle.fwht.specs.InPlace.{column, spans, turned}
use Rattle.fwht.proofs.Columns.{column-length, put-length, put-here, put-elsewhere, columns-ext}
use Rattle.fwht.proofs.Passes.{spans-length, spans-nil, column-spans}

module _ {A : Type 0} (d : A) (plus minus : A → A → A) where
  -- ---- one column

  module _ (k h j : ℕ) (v : List A) where
    -- the entries that go into the column
    abbrev after : List A
    after = spans d plus minus 1 k (column d h j (2 ^ k) v)

    turned-length : length (turned d plus minus k h j v) ≡ length v
    unfolding turned
    turned-length = put-length d h j after v

    turned-here : j < h → length v ≡ 2 ^ k * h → column d h j (2 ^ k) (turned d plus minus k h j v) ≡ after
    unfolding turned
    turned-here l e = put-here d h j (2 ^ k) after v (spans-length d plus minus k 1 (column d h j (2 ^ k) v) ∙ column-length d h j (2 ^ k) v) l e

    turned-elsewhere : (t : ℕ) → j < h → t < h → (t ≡ j → ⊥) → column d h t (2 ^ k) (turned d plus minus k h j v) ≡ column d h t (2 ^ k) v
    unfolding turned
    turned-elsewhere t a b n = put-elsewhere d h j t (2 ^ k) after v a b n

  -- ---- column after column

  -- the columns that start at the places 0, 1, .., j - 1, transformed
  abbrev turns : ℕ → ℕ → ℕ → List A → List A
  turns k h zero v = v
  turns k h (suc j) v = turned d plus minus k h j (turns k h j v)

  turns-length : (k h j : ℕ) (v : List A) → length (turns k h j v) ≡ length v
  turns-length k h zero v = refl
  turns-length k h (suc j) v = turned-length k h j (turns k h j v) ∙ turns-length k h j v

  module _ (k h : ℕ) (v : List A) (e : length v ≡ 2 ^ k * h) where
    rest : (j t : ℕ) → j ≤ t → t < h → column d h t (2 ^ k) (turns k h j v) ≡ column d h t (2 ^ k) v
    rest zero t l u = refl
    rest (suc j) t l u = turned-elsewhere k h j (turns k h j v) t (omega arith) u (λ s. omega arith) ∙ rest j t (omega arith) u

    done : (j t : ℕ) → j ≤ h → t < j → column d h t (2 ^ k) (turns k h j v) ≡ spans d plus minus 1 k (column d h t (2 ^ k) v)
    done zero t l u = absurd (omega arith)
    done (suc j) t l u = go (dec_lt t j) (done j t (omega arith))
      where
        go : Dec (t < j) → (t < j → column d h t (2 ^ k) (turns k h j v) ≡ spans d plus minus 1 k (column d h t (2 ^ k) v))
            → column d h t (2 ^ k) (turns k h (suc j) v) ≡ spans d plus minus 1 k (column d h t (2 ^ k) v)
        go (yes b) before = turned-elsewhere k h j (turns k h j v) t (omega arith) (omega arith) (λ s. omega arith) ∙ before b
        go (no b) before =
            let s : t ≡ j = omega arith in
            rw s (turned-here k h j (turns k h j v) (omega arith) (turns-length k h j v ∙ e) ∙ ap (spans d plus minus 1 k) (rest j j (le_refl j) (omega arith)))

  -- every column of a block of 2 ^ k * h places: k passes from the span h on
  turns-all : (k h : ℕ) (v : List A) → length v ≡ 2 ^ k * h → turns k h h v ≡ spans d plus minus h k v
  turns-all k zero [] e = sym (spans-nil d plus minus k 0)
  turns-all k zero (x ∷ v) e = absurd (omega arith)
  turns-all k (suc g) v e =
      columns-ext d (suc g) (2 ^ k) _ _ (zero-lt-suc g) (turns-length k (suc g) (suc g) v ∙ e) (spans-length d plus minus k (suc g) v ∙ e)
      (λ t l. done k (suc g) v e (suc g) t (le_refl (suc g)) l ∙ sym (column-spans d plus minus k (suc g) t (2 ^ k) 1 v l e)
      ∙ ap (λ (x : ℕ). column d (suc g) t (2 ^ k) (spans d plus minus x k v)) (one-mul (suc g)))

  -- w is v after the transforms of its first j columns
  pub record Turning (k h j : ℕ) (v w : List A) : Type 0 where
    pub within : j ≤ h
    pub work : w ≡ turns k h j v

  module _ (k h j : ℕ) (v w : List A) (s : Turning k h j v w) where
    pub turning-all : h ≤ j → length v ≡ 2 ^ k * h → w ≡ spans d plus minus h k v
    turning-all l e = s.work ∙ ap (λ (z : ℕ). turns k h z v) (le_antisymm s.within l) ∙ turns-all k h v e
