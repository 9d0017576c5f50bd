-- The front of a list and its rest: what stands where after `over`, what a list is by its entries, and how many of the first n pass.
use mathlib.Core.Path.{◌≡◌, refl, sym, ap, ◌∙◌}
use mathlib.Core.Bool.{Bool, true, false}
use mathlib.Core.Logic.{⊎_elim}
use mathlib.Core.List.{List, [], ◌∷◌, ◌++◌, map, map-append, map-id, append-nil}
use Prim.Native.Nat.{ℕ, zero, suc, ◌+◌, ◌-◌, ◌≤◌, ◌<◌}
use native.Mathlib.Nat.{sub-zero, eq-or-lt_of_le, le_of_suc-le-suc}
use native.Mathlib.Omega.{arith}
use native.Mathlib.Decide.{dec_lt}
use lib.ListN.{length, get_or, set, take, drop, length-append, get_or-append, take-append-drop}
use lib.Seq.{ext_get_or, get_or-drop, get_or-append-add, length-take-le, take_at, drop_at, drop-append-add, drop-drop, sets-eq}
use Rattle.lists.specs.Lists.{tab, over, splice, below}
use Rattle.lists.specs.Keep.{bit, keep, count, Each}
use Rattle.lists.proofs.Laws.{length-tab, get_or-tab, tab-get_or, tab-ext, tab-append, length_over}
use Rattle.lists.proofs.Keep.{each_append, keep_append, length-keep, count-append, count_same}

module _ {ℓ} {A : Type ℓ} where
  pub get_d_front : (ys xs : List A) (i : ℕ) (d : A) → i < length ys → get_or (over ys xs) i d ≡ get_or ys i d
  unfolding over
  get_d_front ys xs i d h = get_or-append ys (drop (length ys) xs) d i h

  pub get_or-rest : (ys xs : List A) (i : ℕ) (d : A) → length ys ≤ i → get_or (over ys xs) i d ≡ get_or xs i d
  unfolding over
  get_or-rest ys xs i d h =
      let j : length ys + (i - length ys) ≡ i = omega arith in
      ap (λ (n : ℕ). get_or (ys ++ drop (length ys) xs) n d) (sym j) ∙ get_or-append-add ys (drop (length ys) xs) (i - length ys) d
      ∙ get_or-drop (length ys) xs (i - length ys) d ∙ ap (λ (n : ℕ). get_or xs n d) j

  -- a list whose first n entries are f 0, f 1, .., and whose others are those of xs
  pub over-ext : (f : ℕ → A) (n : ℕ) (d : A) (xs ys : List A) → n ≤ length xs → length ys ≡ length xs → ((i : ℕ) → i < n → get_or ys i d ≡ f i) →
      ((i : ℕ) → n ≤ i → i < length xs → get_or ys i d ≡ get_or xs i d) → ys ≡ over (tab f n) xs
  over-ext f n d xs ys h e front rest = ext_get_or d ys (over (tab f n) xs) (e ∙ sym (length_over (tab f n) xs (rw (length-tab f n) h))) at
    where
      at : (i : ℕ) → i < length ys → get_or ys i d ≡ get_or (over (tab f n) xs) i d
      at i l =
          elim (dec_lt i n) [
            | yes k ↦ front i k ∙ sym (get_or-tab f n i d k) ∙ sym (get_d_front (tab f n) xs i d (rw (length-tab f n) k))
            | no k ↦ rest i (omega arith) (omega arith) ∙ sym (get_or-rest (tab f n) xs i d (rw (length-tab f n) (omega arith)))
          ]

  -- its own entries over it
  pub over-own : (f : ℕ → A) (n : ℕ) (d : A) (xs : List A) → n ≤ length xs → ((i : ℕ) → i < n → f i ≡ get_or xs i d) → over (tab f n) xs ≡ xs
  over-own f n d xs h e = sym (over-ext f n d xs xs h refl (λ i l. sym (e i l)) (λ i l k. refl))

  pub over-front : (n : ℕ) (xs : List A) → n ≤ length xs → over (take n xs) xs ≡ xs
  unfolding over
  over-front n xs h = rw (length-take-le n xs h) (take-append-drop n xs)

  -- what was written at the front, read as a part, and as the part `&xs[0..n]`
  pub take-over : (ys xs : List A) (m : ℕ) → m ≡ length ys → take m (over ys xs) ≡ ys
  unfolding over
  take-over ys xs m e = take_at ys (drop (length ys) xs) m (sym e)

  -- and what is left after it
  pub drop-over : (ys xs : List A) (m : ℕ) → m ≡ length ys → drop m (over ys xs) ≡ drop m xs
  unfolding over
  drop-over ys xs m e = drop_at ys (drop (length ys) xs) m (sym e) ∙ ap (λ (n : ℕ). drop n xs) (sym e)

  pub part-tab : (f : ℕ → A) (n : ℕ) (xs : List A) → take (n - 0) (over (tab f n) xs) ≡ tab f n
  part-tab f n xs = take-over (tab f n) xs (n - 0) (sub-zero n ∙ sym (length-tab f n))

  -- two lists by their first m entries and the rest
  pub front_rest : (m : ℕ) (d : A) (xs ys : List A) → length xs ≡ length ys → ((i : ℕ) → i < m → get_or xs i d ≡ get_or ys i d) → drop m xs ≡ drop m ys → xs ≡ ys
  front_rest m d xs ys e front rest = ext_get_or d xs ys e at
    where
      at : (i : ℕ) → i < length xs → get_or xs i d ≡ get_or ys i d
      at i l =
          elim (dec_lt i m) [
            | yes k ↦ front i k
            | no k ↦
                let j : m + (i - m) ≡ i = omega arith in
                ap (λ (n : ℕ). get_or xs n d) (sym j) ∙ sym (get_or-drop m xs (i - m) d) ∙ ap (λ (zs : List A). get_or zs (i - m) d) rest
                ∙ get_or-drop m ys (i - m) d ∙ ap (λ (n : ℕ). get_or ys n d) j
          ]

  -- ---- some places

  pub splice-one : (i : ℕ) (y : A) (xs : List A) → i < length xs → splice i (y ∷ []) xs ≡ set xs i y
  unfolding splice
  splice-one i y xs h = sym (sets-eq (y ∷ []) xs i (omega arith))

  -- more at the front: the places after what was written first
  pub over-append : (ys zs xs : List A) → over (ys ++ zs) xs ≡ splice (length ys) zs (over ys xs)
  unfolding over splice
  over-append ys zs xs =
      let rest : List A = drop (length ys) xs in
      rw (length-append ys zs, take_at ys rest (length ys) refl, drop-append-add ys rest (length zs), drop-drop (length zs) (length ys) xs)

module _ {ℓ ℓ'} {A : Type ℓ} {B : Type ℓ'} (g : A → B) where
  pub map-tab : (f : ℕ → A) (n : ℕ) → map g (tab f n) ≡ tab (λ i. g (f i)) n
  map-tab f zero = refl
  map-tab f (suc n) = rw (map-append g (tab f n) (f n ∷ []), map-tab f n)

  -- a list by its entries, at any default
  pub tab-map : (f : ℕ → B) (xs : List A) → ((i : ℕ) (d : A) → i < length xs → f i ≡ g (get_or xs i d)) → tab f (length xs) ≡ map g xs
  tab-map f [] h = refl
  tab-map f (x ∷ xs) h =
      tab-ext f (λ i. g (get_or (x ∷ xs) i x)) (suc (length xs)) (λ i l. h i x l) ∙ sym (map-tab (λ i. get_or (x ∷ xs) i x) (suc (length xs))) ∙ ap (map g) (tab-get_or (x ∷ xs) x)

  -- what was written is read
  pub get_or-over-map : (ys : List A) (xs : List B) (i : ℕ) (a : A) (b : B) → i < length ys → get_or (over (map g ys) xs) i b ≡ g (get_or ys i a)
  unfolding over
  get_or-over-map ys xs i a b h = go ys i (drop (length (map g ys)) xs) h
    where
      go : (ys : List A) (i : ℕ) (rest : List B) → i < length ys → get_or (map g ys ++ rest) i b ≡ g (get_or ys i a)
      go [] i rest h = absurd (omega arith)
      go (x ∷ ys) zero rest h = refl
      go (x ∷ ys) (suc i) rest h = go ys i rest (omega arith)

module _ {ℓ} {A : Type ℓ} where
  pub tab-is : (f : ℕ → A) (xs : List A) → ((i : ℕ) (d : A) → i < length xs → f i ≡ get_or xs i d) → tab f (length xs) ≡ xs
  tab-is f xs h = tab-map (λ x. x) f xs h ∙ map-id xs

-- ---- what holds of each

pub each_map : {X Y : Type 0} (P : Y → Type 0) (f : X → Y) (xs : List X) → Each (λ x. P (f x)) xs → Each P (map f xs)
each_map P f [] h = tt
each_map P f (x ∷ xs) h = (h.0, each_map P f xs h.1)

pub map_each : {X Y : Type 0} (P : Y → Type 0) (f : X → Y) (xs : List X) → Each P (map f xs) → Each (λ x. P (f x)) xs
map_each P f [] h = tt
map_each P f (x ∷ xs) h = (h.0, map_each P f xs h.1)

-- what holds of each holds of the one at i
pub each_at : {X : Type 0} (P : X → Type 0) (xs : List X) (i : ℕ) (d : X) → Each P xs → i < length xs → P (get_or xs i d)
each_at P [] i d h l = absurd (omega arith)
each_at P (x ∷ xs) zero d h l = h.0
each_at P (x ∷ xs) (suc i) d h l = each_at P xs i d h.1 (omega arith)

pub each-tab : {X : Type 0} (P : X → Type 0) (f : ℕ → X) (n : ℕ) → ((i : ℕ) → i < n → P (f i)) → Each P (tab f n)
each-tab P f zero h = tt
each-tab P f (suc n) h = each_append P (tab f n) (f n ∷ []) (each-tab P f n (λ i l. h i (omega arith))) (h n (omega arith), tt)

pub tab-each : {X : Type 0} (P : X → Type 0) (f : ℕ → X) (n : ℕ) → Each P (tab f n) → (i : ℕ) → i < n → P (f i)
tab-each P f n h i l = rw (get_or-tab f n i (f 0) l) at (each_at P (tab f n) i (f 0) h (rw (length-tab f n) l))

-- what follows from each entry that passes follows where some pass
pub each-count : {X Q : Type 0} (p : X → Bool) (xs : List X) → Each (λ x. p x ≡ true → Q) xs → 0 < count p xs → Q
each-count p [] h l = absurd (omega arith)
each-count {Q = Q} p (x ∷ xs) h l = go (p x) refl (each-count p xs h.1)
  where
    go : (b : Bool) → p x ≡ b → (0 < count p xs → Q) → Q
    go true e ih = h.0 e
    go false e ih = ih (omega (arith, ap bit e))

-- ---- how many of the first n pass

pub count-tab-append : {X : Type 0} (p : X → Bool) (f : ℕ → X) (m k : ℕ) → count p (tab f (m + k)) ≡ count p (tab f m) + count p (tab (λ j. f (m + j)) k)
count-tab-append p f m k = ap (count p) (tab-append f m k) ∙ count-append p (tab f m) (tab (λ j. f (m + j)) k)

-- by tests that agree below n
pub count_below : (p q : ℕ → Bool) (n : ℕ) → ((j : ℕ) → j < n → p j ≡ q j) → count p (below n) ≡ count q (below n)
count_below p q n e = count_same p q (below n) (each-tab (λ j. p j ≡ q j) (λ j. j) n e)

-- ---- numbers from i on that do not pass: those below i say it all

module _ (p : ℕ → Bool) (i : ℕ) (past : (j : ℕ) → i ≤ j → p j ≡ false) where
  pub keep-past : (n : ℕ) → i ≤ n → keep p (below n) ≡ keep p (below i)
  keep-past zero l = let e : 0 ≡ i = omega arith in ap (λ (m : ℕ). keep p (below m)) e
  keep-past (suc n) l =
      ⊎_elim
      (λ (e : i ≡ suc n). ap (λ (m : ℕ). keep p (below m)) (sym e))
      (λ (m : i < suc n). keep_append p (below n) (n ∷ []) ∙ rw (past n (le_of_suc-le-suc m)) (append-nil (keep p (below n))) ∙ keep-past n (le_of_suc-le-suc m))
      (eq-or-lt_of_le l)

  pub count_past : (n : ℕ) → i ≤ n → count p (below n) ≡ count p (below i)
  count_past n l = sym (length-keep p (below n)) ∙ ap length (keep-past n l) ∙ length-keep p (below i)
