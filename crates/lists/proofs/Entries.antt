-- One place of a tabulation changed, the entries of a list of known length, an entry that may not be there, and the entries of two lists zipped.
use mathlib.Core.Path.{◌≡◌, refl, sym, ap, subst, ◌∙◌}
use mathlib.Core.Logic.{◌≢◌}
use mathlib.Core.Bool.{Bool, true, false, cond}
use mathlib.Core.List.{List, [], ◌∷◌, ◌++◌, map}
use mathlib.Core.Option
use mathlib.Core.Option.{none, some}
use Prim.Native.Nat.{ℕ, zero, suc, ◌+◌, ◌-◌, ◌≤◌, ◌<◌}
use native.Mathlib.Nat.{not-suc-le-zero, le_of_suc-le-suc, zero-add}
use native.Mathlib.Numerals.{one-add}
use native.Mathlib.Decide.{ℕ_discrete, dec_lt}
use native.Mathlib.Omega.{arith}
use lib.ListN.{length, take, drop, get_or, get_elem?, set, length-set}
use lib.Seq.{get_or-set_same, get_or-set_other, get_or-drop, ext_get_or}
use Rattle.lists.specs.Lists.{tab, zip_with}
use Rattle.lists.specs.Keep.{Each, bit, keep, count}
use Rattle.lists.proofs.Laws.{length-tab, get_or-tab, tab-get_or}

module _ {A : Type 0} where
  pub set-tab : (f g : ℕ → A) (n i : ℕ) (a : A) → i < n → g i ≡ a → ((j : ℕ) → j ≢ i → g j ≡ f j) → set (tab f n) i a ≡ tab g n
  set-tab f g n i a h e other =
      ext_get_or a _ _ (length-set (tab f n) i a ∙ length-tab f n ∙ sym (length-tab g n))
      (λ j l. at j (rw (length-set (tab f n) i a, length-tab f n) at l) (ℕ_discrete j i))
    where
      at : (j : ℕ) → j < n → Dec (j ≡ i) → get_or (set (tab f n) i a) j a ≡ get_or (tab g n) j a
      at j l (yes d) = rw d (get_or-set_same (tab f n) i a a (rw (length-tab f n) h) ∙ sym (get_or-tab g n i a h ∙ e))
      at j l (no d) = get_or-set_other (tab f n) i j a a d ∙ get_or-tab f n j a l ∙ sym (get_or-tab g n j a l ∙ other j d)

  pub entries : (xs : List A) (d : A) (n : ℕ) → length xs ≡ n → xs ≡ tab (λ i. get_or xs i d) n
  entries xs d n e = rw e at (sym (tab-get_or xs d))

  -- the first m entries and the later ones are all there is of a list
  pub first-and-later : (d : A) (m : ℕ) (xs ys : List A) → length xs ≡ length ys → tab (λ i. get_or xs i d) m ≡ tab (λ i. get_or ys i d) m → drop m xs ≡ drop m ys → xs ≡ ys
  first-and-later d m xs ys n e f = ext_get_or d xs ys n (λ i l. at i (dec_lt i m))
    where
      at : (i : ℕ) → Dec (i < m) → get_or xs i d ≡ get_or ys i d
      at i (yes l) = sym (get_or-tab (λ j. get_or xs j d) m i d l) ∙ ap (λ (zs : List A). get_or zs i d) e ∙ get_or-tab (λ j. get_or ys j d) m i d l
      at i (no l) =
          let j : m + (i - m) ≡ i = omega arith in
          ap (λ (k : ℕ). get_or xs k d) (sym j) ∙ sym (get_or-drop m xs (i - m) d) ∙ ap (λ (zs : List A). get_or zs (i - m) d) f ∙ get_or-drop m ys (i - m) d ∙
          ap (λ (k : ℕ). get_or ys k d) j

  -- ---- an entry that may not be there

  elem_in : (xs : List A) (i : ℕ) (d : A) → i < length xs → get_elem? xs i ≡ some (get_or xs i d)
  elem_in [] i d l = absurd (omega arith)
  elem_in (x ∷ xs) zero d l = refl
  elem_in (x ∷ xs) (suc i) d l = elem_in xs i d (omega arith)

  elem_past : (xs : List A) (i : ℕ) → length xs ≤ i → get_elem? xs i ≡ none
  elem_past [] i l = refl
  elem_past (x ∷ xs) zero l = absurd (omega arith)
  elem_past (x ∷ xs) (suc i) l = elem_past xs i (omega arith)

  module _ (f : ℕ → A) (n i : ℕ) where
    pub tab-in : i < n → get_elem? (tab f n) i ≡ some (f i)
    tab-in l = elem_in (tab f n) i (f i) (rw (length-tab f n) l) ∙ ap some (get_or-tab f n i (f i) l)

    pub tab-past : n ≤ i → get_elem? (tab f n) i ≡ none
    tab-past l = elem_past (tab f n) i (rw (length-tab f n) l)

pub elem-map : {A B : Type 0} (f : A → B) (xs : List A) (i : ℕ) → get_elem? (map f xs) i ≡ Option.map f (get_elem? xs i)
elem-map f [] i = refl
elem-map f (x ∷ xs) zero = refl
elem-map f (x ∷ xs) (suc i) = elem-map f xs i

-- ---- an entry that is there

module _ {X : Type 0} where
  pub each-elem : (P : X → Type 0) (xs : List X) (i : ℕ) (x : X) → get_elem? xs i ≡ some x → Each P xs → P x
  each-elem P [] i x e h = absurd (let z : ◌≡◌ {A = ℕ} 0 1 = cc in omega arith)
  each-elem P (y ∷ ys) zero x e h = let f : y ≡ x = cc in subst P f h.0
  each-elem P (y ∷ ys) (suc i) x e h = each-elem P ys i x e h.1

  pub elem-append : (xs ys : List X) (i : ℕ) (x : X) → get_elem? xs i ≡ some x → get_elem? (xs ++ ys) i ≡ some x
  elem-append [] ys i x e = absurd (let z : ◌≡◌ {A = ℕ} 0 1 = cc in omega arith)
  elem-append (z ∷ zs) ys zero x e = e
  elem-append (z ∷ zs) ys (suc i) x e = elem-append zs ys i x e

  -- an entry that is kept stands after those before it that are kept
  pub elem-keep : (p : X → Bool) (xs : List X) (i : ℕ) (x : X) → get_elem? xs i ≡ some x → p x ≡ true → get_elem? (keep p xs) (count p (take i xs)) ≡ some x
  elem-keep p [] i x e t = absurd (let z : ◌≡◌ {A = ℕ} 0 1 = cc in omega arith)
  elem-keep p (y ∷ ys) zero x e t = let f : y ≡ x = cc in rw (f, t)
  elem-keep p (y ∷ ys) (suc i) x e t = go (p y) (elem-keep p ys i x e t)
    where
      go : (b : Bool) → get_elem? (keep p ys) (count p (take i ys)) ≡ some x → get_elem? (cond b (y ∷ keep p ys) (keep p ys)) (bit b + count p (take i ys)) ≡ some x
      go true ih = rw (one-add (count p (take i ys))) ih
      go false ih = rw (zero-add (count p (take i ys))) ih

  pub elem-below : (xs : List X) (i : ℕ) (x : X) → get_elem? xs i ≡ some x → i < length xs
  elem-below [] i x e = absurd (let z : ◌≡◌ {A = ℕ} 0 1 = cc in omega arith)
  elem-below (y ∷ ys) zero x e = omega arith
  elem-below (y ∷ ys) (suc i) x e = omega (arith, elem-below ys i x e)

-- ---- two lists zipped

module _ {A B C : Type 0} (f : A → B → C) where
  pub length-zip : (xs : List A) (ys : List B) → length ys ≡ length xs → length (zip_with f xs ys) ≡ length xs
  length-zip [] ys e = refl
  length-zip (x ∷ xs) [] e = e
  length-zip (x ∷ xs) (y ∷ ys) e = ap suc (length-zip xs ys (omega arith))

  pub get_d_zip : (xs : List A) (ys : List B) (i : ℕ) (a : A) (b : B) (c : C) → i < length xs → i < length ys → get_or (zip_with f xs ys) i c ≡ f (get_or xs i a) (get_or ys i b)
  get_d_zip [] ys i a b c h k = absurd (not-suc-le-zero h)
  get_d_zip (x ∷ xs) [] i a b c h k = absurd (not-suc-le-zero k)
  get_d_zip (x ∷ xs) (y ∷ ys) zero a b c h k = refl
  get_d_zip (x ∷ xs) (y ∷ ys) (suc i) a b c h k = get_d_zip xs ys i a b c (le_of_suc-le-suc h) (le_of_suc-le-suc k)
