-- How far a transform that works in place has come: what the private functions of `fwht` require and ensure. Over any type of entries, as specs/Fwht.antt.
use Rattle.std.specs.Prelude.{List, [], ◌∷◌, ◌≡◌, ℕ, zero, suc, ◌+◌, ◌*◌, ◌^◌, ◌≤◌, ◌<◌, length, get_or, set}
use Rattle.padding.specs.Padded.{exponent}
use Rattle.fwht.specs.Fwht.{pass, passes}

-- n places are whole blocks of m places
pub record Blocks (m n : ℕ) : Type 0 where
  pub positive : 0 < m
  pub count : (c : ℕ) × (n ≡ c * m)

-- v with the entries xs at the places j, j + h, j + 2 * h, ..
abbrev pub put_column : {A : Type 0} → ℕ → ℕ → List A → List A → List A
put_column h j [] v = v
put_column h j (x ∷ xs) v = put_column h (j + h) xs (set v j x)

-- the m entries of v at the places j, j + h, j + 2 * h, ..
abbrev pub column : {A : Type 0} → A → ℕ → ℕ → ℕ → List A → List A
column d h j zero v = []
column d h j (suc m) v = get_or v j d ∷ column d h (j + h) m v

module _ {A : Type 0} (d : A) (plus minus : A → A → A) where
  -- k passes, at the spans h, 2 * h, 4 * h, ..
  abbrev pub spans : ℕ → ℕ → List A → List A
  spans h zero v = v
  spans h (suc k) v = spans (h + h) k (pass d plus minus h v)

  -- v with the 2 ^ k entries at j, j + h, j + 2 * h, .. transformed
  unfoldable pub turned : ℕ → ℕ → ℕ → List A → List A
  turned k h j v = put_column h j (spans 1 k (column d h j (2 ^ k) v)) v

  -- w is v, whose length is a power of two, after the passes at the spans below h
  pub record Spanned (v w : List A) (h : ℕ) : Type 0 where
    pub power : 2 ^ exponent (length v) ≡ length v
    pub count : ℕ
    pub span : h ≡ 2 ^ count
    pub within : count ≤ exponent (length v)
    pub work : w ≡ passes d plus minus count v
