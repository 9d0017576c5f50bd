-- Laws of `tab`, `zip_with`, `over` and `total`, of `get_or` at two defaults, and of zeros.
use mathlib.Core.Path.{◌≡◌, refl, sym, ap, ◌∙◌}
use mathlib.Core.Logic.{◌⊎◌, inl, inr}
use mathlib.Core.List.{List, [], ◌∷◌, ◌++◌, append-nil, append_assoc}
use Prim.Native.Nat.{ℕ, zero, suc, ◌+◌, ◌≤◌, ◌<◌}
use native.Mathlib.Nat.{suc_inj, zero-add, add-zero, add-suc, not-suc-le-zero, le_of_suc-le-suc, le_antisymm, eq-or-lt_of_le}
use native.Mathlib.Numerals.{add-one}
use native.Mathlib.Omega.{arith}
use lib.ListN.{length, get_or, take, drop, set, replicate, length-append, length-drop, get_or-append}
use lib.Seq.{append_snoc, drop-cons, drop-length, get_or_at, set_at, ext_get_or, take-length, paste-suc}
use Rattle.lists.specs.Lists.{tab, zip_with, over, total}

module _ {ℓ} {A : Type ℓ} where
  -- in range the default doesn't matter
  pub get_d_default : (l : List A) (i : ℕ) (d e : A) → i < length l → get_or l i d ≡ get_or l i e
  get_d_default [] i d e h = absurd (not-suc-le-zero h)
  get_d_default (x ∷ xs) zero d e h = refl
  get_d_default (x ∷ xs) (suc i) d e h = get_d_default xs i d e (le_of_suc-le-suc h)

  pub length-tab : (f : ℕ → A) (n : ℕ) → length (tab f n) ≡ n
  length-tab f zero = refl
  length-tab f (suc n) = rw (length-append (tab f n), length-tab f n, add-one n)

  pub get_or-tab : (f : ℕ → A) (n i : ℕ) (d : A) → i < n → get_or (tab f n) i d ≡ f i
  get_or-tab f zero i d h = absurd (not-suc-le-zero h)
  get_or-tab f (suc n) i d h = at (get_or-tab f n i d) (eq-or-lt_of_le (le_of_suc-le-suc h))
    where
      at : (i < n → get_or (tab f n) i d ≡ f i) → (i ≡ n) ⊎ (i < n) → get_or (tab f (suc n)) i d ≡ f i
      at ih (inl e) = get_or_at (tab f n) (f n) [] d i (length-tab f n ∙ sym e) ∙ ap f (sym e)
      at ih (inr l) = get_or-append (tab f n) (f n ∷ []) d i (rw (length-tab f n) l) ∙ ih l

  -- a list is the tabulation of its own entries
  pub tab-get_or : (l : List A) (d : A) → tab (λ i. get_or l i d) (length l) ≡ l
  tab-get_or l d = ext_get_or d _ _ (length-tab _ _) (λ i h. get_or-tab _ _ _ _ (rw (length-tab _ _) at h))

  pub tab-ext : (f g : ℕ → A) (n : ℕ) → ((i : ℕ) → i < n → f i ≡ g i) → tab f n ≡ tab g n
  tab-ext f g zero e = refl
  tab-ext f g (suc n) e = rw (tab-ext f g n (λ i h. e i (omega arith)), e n (omega arith))

  -- m entries and k more
  pub tab-append : (f : ℕ → A) (m k : ℕ) → tab f (m + k) ≡ tab f m ++ tab (λ j. f (m + j)) k
  tab-append f m zero = rw (add-zero m, append-nil (tab f m)) refl
  tab-append f m (suc k) = rw (add-suc m k, tab-append f m k) (append_assoc (tab f m) (tab (λ j. f (m + j)) k) (f (m + k) ∷ []))

  pub length_over : (ys xs : List A) → length ys ≤ length xs → length (over ys xs) ≡ length xs
  unfolding over
  length_over ys xs h = simp (length-append, length-drop) (omega arith)

  -- nothing is kept where there are as many new entries as places
  pub over-all : (ys xs : List A) → length ys ≡ length xs → over ys xs ≡ ys
  unfolding over
  over-all ys xs e = rw (e, drop-length) (append-nil ys)

  -- a loop that fills the first places from the front: one more store
  pub over-more : (f : ℕ → A) (i : ℕ) (xs : List A) → i < length xs → set (over (tab f i) xs) i (f i) ≡ over (tab f (i + 1)) xs
  unfolding over
  over-more f i xs h =
      rw (add-one i, length-tab f (suc i), length-tab f i, drop-cons xs i (f i), set_at (tab f i) _ _ (f i) i (length-tab f i)) (sym (append_snoc (tab f i) (f i) (drop (suc i) xs)))

  -- the places of d once the first i entries of l are written over them, as a loop does
  abbrev pub begun : List A → List A → ℕ → List A
  begun l d i = take i l ++ drop i d

  pub begun-next : (l d places : List A) (i : ℕ) (z x : A) → i < length d → i < length l → places ≡ begun l d i → x ≡ get_or l i z →
      set places i x ≡ begun l d (i + 1)
  begun-next l d places i z x h k e g = rw (e, g, add-one i) (simp zero-add at (paste-suc d 0 l i z (rw zero-add h) k))

  pub begun_all : (l d : List A) (i : ℕ) → i ≤ length l → length l ≤ i → begun l d i ≡ over l d
  unfolding over
  begun_all l d i h k = ap (begun l d) (le_antisymm h k) ∙ ap (λ (t : List A). t ++ drop (length l) d) (take-length l)

module _ {ℓ ℓ' ℓ''} {A : Type ℓ} {B : Type ℓ'} {C : Type ℓ''} (f : A → B → C) where
  zip-append : (xs : List A) (ys : List B) (a : A) (b : B) → length xs ≡ length ys → zip_with f (xs ++ (a ∷ [])) (ys ++ (b ∷ [])) ≡ zip_with f xs ys ++ (f a b ∷ [])
  zip-append [] [] a b e = refl
  zip-append [] (y ∷ ys) a b e = absurd (omega arith)
  zip-append (x ∷ xs) [] a b e = absurd (omega arith)
  zip-append (x ∷ xs) (y ∷ ys) a b e = ap (λ (l : List C). f x y ∷ l) (zip-append xs ys a b (suc_inj e))

  pub zip-tab : (g : ℕ → A) (h : ℕ → B) (n : ℕ) → zip_with f (tab g n) (tab h n) ≡ tab (λ i. f (g i) (h i)) n
  zip-tab g h zero = refl
  zip-tab g h (suc n) = rw (zip-append (tab g n) (tab h n) (g n) (h n) (length-tab g n ∙ sym (length-tab h n)), zip-tab g h n)

-- ---- sums

pub total-append : (xs ys : List ℕ) → total (xs ++ ys) ≡ total xs + total ys
total-append [] ys = omega arith
total-append (x ∷ xs) ys = omega (arith, total-append xs ys)

pub total-next : (f : ℕ → ℕ) (n : ℕ) → total (tab f (suc n)) ≡ total (tab f n) + f n
total-next f n = omega (arith, total-append (tab f n) (f n ∷ []))

-- ---- zeros

pub get_or-zeros : (n i : ℕ) → get_or (replicate {A = ℕ} n 0) i 0 ≡ 0
get_or-zeros zero i = refl
get_or-zeros (suc n) zero = refl
get_or-zeros (suc n) (suc i) = get_or-zeros n i
