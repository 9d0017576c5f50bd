-- Laws of `keep`, `count`, `Each` and `numbered`, and of parts of a list, for lists of any type.
use mathlib.Core.Path.{◌≡◌, refl, ap, sym, ◌∙◌, subst}
use mathlib.Core.Bool.{Bool, true, false, cond, ◌&&◌}
use mathlib.Core.List.{List, [], ◌∷◌, ◌++◌, map, append-nil, Memᴰ}
use Prim.Native.Nat.{ℕ, zero, suc, ◌+◌, ◌≤◌, ◌<◌}
use native.Mathlib.Nat.{add-zero, suc-add, add-suc}
use native.Mathlib.Numerals.{add-one}
use native.Mathlib.Omega.{arith}
use lib.ListN.{length, take, drop, get_or, set, take-append-drop, drop_of_length-le, length-append}
use lib.Seq.{take-suc, take_at, drop_at, get_or_at, drop-cons, take-take, length-take-le, drop-append-le, slice, slice-cons, slice_empty, sets, sets-eq, get_or-set_other}
use lib.Dec.{T}
use Rattle.lists.specs.Keep.{bit, keep, count, Each, numbered}

-- what holds either way
pub either : {A : Type 0} (P : A → Type 0) (b : Bool) {u v : A} → P u → P v → P (cond b u v)
either P true h k = h
either P false h k = k

module _ {X : Type 0} where
  -- ---- what holds of each entry

  pub each-mem : (P : X → Type 0) (xs : List X) → ((x : X) → Memᴰ x xs → P x) → Each P xs
  each-mem P [] h = tt
  each-mem P (x ∷ xs) h = (h x (Memᴰ.head refl), each-mem P xs (λ y m. h y (Memᴰ.tail m)))

  pub each-get_or : (P : X → Type 0) (d : X) (xs : List X) → ((i : ℕ) → i < length xs → P (get_or xs i d)) → Each P xs
  each-get_or P d [] h = tt
  each-get_or P d (x ∷ xs) h = (h 0 (omega arith), each-get_or P d xs (λ i l. h (suc i) (omega arith)))

  pub each_weaken : (P Q : X → Type 0) (xs : List X) → ((x : X) → P x → Q x) → Each P xs → Each Q xs
  each_weaken P Q [] f h = tt
  each_weaken P Q (x ∷ xs) f h = (f x h.0, each_weaken P Q xs f h.1)

  pub each_both : (P Q : X → Type 0) (xs : List X) → Each P xs → Each Q xs → Each (λ x. P x × Q x) xs
  each_both P Q [] p q = tt
  each_both P Q (x ∷ xs) p q = ((p.0, q.0), each_both P Q xs p.1 q.1)

  pub each_append : (P : X → Type 0) (xs ys : List X) → Each P xs → Each P ys → Each P (xs ++ ys)
  each_append P [] ys h k = k
  each_append P (x ∷ xs) ys h k = (h.0, each_append P xs ys h.1 k)

  pub each_take : (P : X → Type 0) (n : ℕ) (xs : List X) → Each P xs → Each P (take n xs)
  each_take P zero xs h = tt
  each_take P (suc n) [] h = tt
  each_take P (suc n) (x ∷ xs) h = (h.0, each_take P n xs h.1)

  pub each-drop : (P : X → Type 0) (n : ℕ) (xs : List X) → Each P xs → Each P (drop n xs)
  each-drop P zero xs h = h
  each-drop P (suc n) [] h = tt
  each-drop P (suc n) (x ∷ xs) h = each-drop P n xs h.1

  pub each_keep : (P : X → Type 0) (p : X → Bool) (xs : List X) → Each P xs → Each P (keep p xs)
  each_keep P p [] h = tt
  each_keep P p (x ∷ xs) h = either (Each P) (p x) (h.0, each_keep P p xs h.1) (each_keep P p xs h.1)

  -- each entry that is kept passes the test
  pub each-kept : (P : X → Type 0) (p : X → Bool) (xs : List X) → ((x : X) → p x ≡ true → P x) → Each P (keep p xs)
  each-kept P p [] f = tt
  each-kept P p (x ∷ xs) f = go (p x) refl (each-kept P p xs f)
    where
      go : (b : Bool) → p x ≡ b → Each P (keep p xs) → Each P (cond b (x ∷ keep p xs) (keep p xs))
      go true e k = (f x e, k)
      go false e k = k

  pub mem-keep : (p : X → Bool) {x : X} {xs : List X} → p x ≡ true → Memᴰ x xs → Memᴰ x (keep p xs)
  mem-keep p {x} e (Memᴰ.head {x = y} {xs = ys} q) = go (p y) (sym (ap p q) ∙ e)
    where
      go : (b : Bool) → b ≡ true → Memᴰ x (cond b (y ∷ keep p ys) (keep p ys))
      go true i = Memᴰ.head q
      go false i = absurd (subst T (sym i) tt)
  mem-keep p {x} e (Memᴰ.tail {x = y} {xs = ys} m) = either (Memᴰ x) (p y) (Memᴰ.tail (mem-keep p e m)) (mem-keep p e m)

  -- ---- what is kept

  pub keep_append : (p : X → Bool) (xs ys : List X) → keep p (xs ++ ys) ≡ keep p xs ++ keep p ys
  keep_append p [] ys = refl
  keep_append p (x ∷ xs) ys = go (p x) (keep_append p xs ys)
    where
      go : (b : Bool) → keep p (xs ++ ys) ≡ keep p xs ++ keep p ys → cond b (x ∷ keep p (xs ++ ys)) (keep p (xs ++ ys)) ≡ cond b (x ∷ keep p xs) (keep p xs) ++ keep p ys
      go true ih = rw ih
      go false ih = ih

  pub keep_same : (p q : X → Bool) (xs : List X) → Each (λ x. p x ≡ q x) xs → keep p xs ≡ keep q xs
  keep_same p q [] h = refl
  keep_same p q (x ∷ xs) h = rw (h.0, keep_same p q xs h.1)

  pub keep_all : (p : X → Bool) (xs : List X) → Each (λ x. p x ≡ true) xs → keep p xs ≡ xs
  keep_all p [] h = refl
  keep_all p (x ∷ xs) h = rw (h.0, keep_all p xs h.1)

  pub keep-none : (p : X → Bool) (xs : List X) → Each (λ x. p x ≡ false) xs → keep p xs ≡ []
  keep-none p [] h = refl
  keep-none p (x ∷ xs) h = rw (h.0, keep-none p xs h.1)

  -- one test after another
  pub keep-both : (p q : X → Bool) (xs : List X) → keep p (keep q xs) ≡ keep (λ x. q x && p x) xs
  keep-both p q [] = refl
  keep-both p q (x ∷ xs) = go (q x) (keep-both p q xs)
    where
      go : (b : Bool) → keep p (keep q xs) ≡ keep (λ y. q y && p y) xs →
          keep p (cond b (x ∷ keep q xs) (keep q xs)) ≡ cond (b && p x) (x ∷ keep (λ y. q y && p y) xs) (keep (λ y. q y && p y) xs)
      go true ih = ap (λ (l : List X). cond (p x) (x ∷ l) l) ih
      go false ih = ih

  -- a stricter test after a laxer one
  pub keep-keep : (p q : X → Bool) (xs : List X) → ((x : X) → p x ≡ true → q x ≡ true) → keep p (keep q xs) ≡ keep p xs
  keep-keep p q [] h = refl
  keep-keep p q (x ∷ xs) h = go (q x) (p x) refl refl (keep-keep p q xs h)
    where
      go : (b c : Bool) → q x ≡ b → p x ≡ c → keep p (keep q xs) ≡ keep p xs → keep p (cond b (x ∷ keep q xs) (keep q xs)) ≡ cond c (x ∷ keep p xs) (keep p xs)
      go true true e f ih = rw (f, ih)
      go true false e f ih = rw (f, ih)
      go false true e f ih = absurd (subst T (sym (h x f) ∙ e) tt)
      go false false e f ih = ih

  -- ---- how many

  pub count-append : (p : X → Bool) (xs ys : List X) → count p (xs ++ ys) ≡ count p xs + count p ys
  count-append p [] ys = omega arith
  count-append p (x ∷ xs) ys = omega (arith, count-append p xs ys)

  pub count-split : (p : X → Bool) (n : ℕ) (xs : List X) → count p (take n xs) + count p (drop n xs) ≡ count p xs
  count-split p n xs = sym (count-append p (take n xs) (drop n xs)) ∙ ap (count p) (take-append-drop n xs)

  pub count_next : (p : X → Bool) (i : ℕ) (xs : List X) (d : X) → i < length xs → count p (take (i + 1) xs) ≡ count p (take i xs) + bit (p (get_or xs i d))
  count_next p i xs d h = rw (add-one i, take-suc xs i d h) (omega (arith, count-append p (take i xs) (get_or xs i d ∷ [])))

  pub count-keep : (p q : X → Bool) (xs : List X) → count p (keep q xs) ≤ count p xs
  count-keep p q [] = omega arith
  count-keep p q (x ∷ xs) = either (λ (r : List X). count p r ≤ bit (p x) + count p xs) (q x) (omega (arith, count-keep p q xs)) (omega (arith, count-keep p q xs))

  pub length-keep : (p : X → Bool) (xs : List X) → length (keep p xs) ≡ count p xs
  length-keep p [] = refl
  length-keep p (x ∷ xs) = go (p x) (length-keep p xs)
    where
      go : (b : Bool) → length (keep p xs) ≡ count p xs → length (cond b (x ∷ keep p xs) (keep p xs)) ≡ bit b + count p xs
      go true ih = omega arith
      go false ih = omega arith

  pub count-implied : (p q : X → Bool) (xs : List X) → ((x : X) → p x ≡ true → q x ≡ true) → count p xs ≤ count q xs
  count-implied p q [] h = omega arith
  count-implied p q (x ∷ xs) h = go (p x) refl (count-implied p q xs h)
    where
      go : (b : Bool) → p x ≡ b → count p xs ≤ count q xs → bit (p x) + count p xs ≤ bit (q x) + count q xs
      go true e ih = rw (e, h x e) (omega arith)
      go false e ih = rw e (omega arith)

  pub count_same : (p q : X → Bool) (xs : List X) → Each (λ x. p x ≡ q x) xs → count p xs ≡ count q xs
  count_same p q [] h = refl
  count_same p q (x ∷ xs) h = rw (h.0, count_same p q xs h.1)

  -- a test that two others share out
  pub count-share : (p q r : X → Bool) (xs : List X) → ((x : X) → bit (p x) ≡ bit (q x) + bit (r x)) → count p xs ≡ count q xs + count r xs
  count-share p q r [] h = omega arith
  count-share p q r (x ∷ xs) h = omega (arith, count-share p q r xs h, h x)

  -- a laxer test before
  pub count-keep-implied : (p q : X → Bool) (xs : List X) → ((x : X) → p x ≡ true → q x ≡ true) → count p (keep q xs) ≡ count p xs
  count-keep-implied p q xs h = sym (length-keep p (keep q xs)) ∙ ap length (keep-keep p q xs h) ∙ length-keep p xs

  pub count-all : (p : X → Bool) (xs : List X) → Each (λ x. p x ≡ true) xs → count p xs ≡ length xs
  count-all p xs h = sym (length-keep p xs) ∙ ap length (keep_all p xs h)

  pub count-length : (p : X → Bool) (xs : List X) → count p xs ≤ length xs
  count-length p xs = omega (arith, count-implied p (λ x. true) xs (λ x e. refl), count-all (λ x. true) xs (each-mem (λ x. true ≡ true) xs (λ x m. refl)))

  -- nothing passes where the count is none
  pub count_none : (p : X → Bool) {x : X} {xs : List X} → Memᴰ x xs → count p xs ≡ 0 → p x ≡ true → ⊥
  count_none p (Memᴰ.head {x = y} {xs = ys} e) z t = omega (arith, ap bit (sym (ap p e) ∙ t))
  count_none p (Memᴰ.tail {x = y} {xs = ys} m) z t = count_none p m (omega arith) t

  -- ---- the first i entries give the first of what is kept

  module _ (p : X → Bool) (i : ℕ) (xs : List X) where
    keep-split : keep p xs ≡ keep p (take i xs) ++ keep p (drop i xs)
    keep-split = ap (keep p) (sym (take-append-drop i xs)) ∙ keep_append p (take i xs) (drop i xs)

    pub take-keep : take (count p (take i xs)) (keep p xs) ≡ keep p (take i xs)
    take-keep = rw keep-split (take_at (keep p (take i xs)) (keep p (drop i xs)) (count p (take i xs)) (length-keep p (take i xs)))

    pub drop-keep : drop (count p (take i xs)) (keep p xs) ≡ keep p (drop i xs)
    drop-keep = rw keep-split (drop_at (keep p (take i xs)) (keep p (drop i xs)) (count p (take i xs)) (length-keep p (take i xs)))

    -- the entry at i stands after those before it that are kept
    module _ (d : X) (here : i < length xs) (passes : p (get_or xs i d) ≡ true) where
      kept_here : keep p xs ≡ keep p (take i xs) ++ (get_or xs i d ∷ keep p (drop (suc i) xs))
      kept_here = keep-split ∙ ap (λ (r : List X). keep p (take i xs) ++ r) (ap (keep p) (drop-cons xs i d here) ∙ rw passes)

      pub get_or-keep : get_or (keep p xs) (count p (take i xs)) d ≡ get_or xs i d
      get_or-keep = rw kept_here (get_or_at (keep p (take i xs)) (get_or xs i d) (keep p (drop (suc i) xs)) d (count p (take i xs)) (length-keep p (take i xs)))

      pub count-before : count p (take i xs) < count p xs
      count-before = omega (arith, length-keep p xs, length-keep p (take i xs), simp length-append at (ap length kept_here))

  -- ---- numbered entries

  pub length-numbered : (s : ℕ) (xs : List X) → length (numbered s xs) ≡ length xs
  length-numbered s [] = refl
  length-numbered s (x ∷ xs) = ap suc (length-numbered (suc s) xs)

  pub get_d_numbered : (s : ℕ) (xs : List X) (i : ℕ) (d : ℕ × X) → i < length xs → get_or (numbered s xs) i d ≡ (s + i, get_or xs i d.1)
  get_d_numbered s [] i d h = absurd (omega arith)
  get_d_numbered s (x ∷ xs) zero d h = rw (add-zero s)
  get_d_numbered s (x ∷ xs) (suc i) d h = get_d_numbered (suc s) xs i d (omega arith) ∙ rw (suc-add s i, add-suc s i)

  pub unnumbered : (s : ℕ) (xs : List X) → map (λ (e : ℕ × X). e.1) (numbered s xs) ≡ xs
  unnumbered s [] = refl
  unnumbered s (x ∷ xs) = rw (unnumbered (suc s) xs)

  -- ---- parts

  pub slice-split : (f i t : ℕ) (xs : List X) → f ≤ i → i ≤ t → t ≤ length xs → slice f t xs ≡ slice f i xs ++ slice i t xs
  slice-split f i t xs h k l =
      ap (drop f) (sym (take-append-drop i (take t xs)) ∙ ap (λ (r : List X). r ++ slice i t xs) (take-take i t xs k)) ∙
      drop-append-le f (take i xs) (slice i t xs) (rw (length-take-le i xs (omega arith)) h)

  pub slice-one : (i : ℕ) (xs : List X) (d : X) → i < length xs → slice i (i + 1) xs ≡ get_or xs i d ∷ []
  slice-one i xs d h = rw (add-one i) (slice-cons i (suc i) xs d (omega arith) h ∙ ap (λ (r : List X). get_or xs i d ∷ r) (slice_empty (suc i) xs))

  -- a run of stores, and then another
  pub sets-append : (xs : List X) (i : ℕ) (ys zs : List X) → sets xs i (ys ++ zs) ≡ sets (sets xs i ys) (i + length ys) zs
  sets-append xs i [] zs = rw (add-zero i)
  sets-append xs i (y ∷ ys) zs = sets-append (set xs i y) (suc i) ys zs ∙ rw (suc-add i (length ys), add-suc i (length ys))

  -- a place past those that are written is as it was
  pub get_or-sets_past : (xs : List X) (s : ℕ) (ys : List X) (i : ℕ) (d : X) → s + length ys ≤ i → get_or (sets xs s ys) i d ≡ get_or xs i d
  get_or-sets_past xs s [] i d h = refl
  get_or-sets_past xs s (y ∷ ys) i d h = get_or-sets_past (set xs s y) (suc s) ys i d (omega arith) ∙ get_or-set_other xs s i y d (omega arith)

  pub sets-all : (xs ys : List X) → length ys ≡ length xs → sets xs 0 ys ≡ ys
  sets-all xs ys e =
      sets-eq ys xs 0 (omega arith) ∙ ap (λ (r : List X). ys ++ r) (drop_of_length-le xs {i = 0 + length ys} (omega arith)) ∙ append-nil ys

-- ---- under a map

pub map_same : {X Y : Type 0} (f g : X → Y) (xs : List X) → Each (λ x. f x ≡ g x) xs → map f xs ≡ map g xs
map_same f g [] h = refl
map_same f g (x ∷ xs) h = rw (h.0, map_same f g xs h.1)

module _ {X Y : Type 0} (f : X → Y) where
  pub take-map : (n : ℕ) (xs : List X) → take n (map f xs) ≡ map f (take n xs)
  take-map zero xs = refl
  take-map (suc n) [] = refl
  take-map (suc n) (x ∷ xs) = rw (take-map n xs)

  pub drop-map : (n : ℕ) (xs : List X) → drop n (map f xs) ≡ map f (drop n xs)
  drop-map zero xs = refl
  drop-map (suc n) [] = refl
  drop-map (suc n) (x ∷ xs) = drop-map n xs

  pub keep-map : (p : Y → Bool) (xs : List X) → keep p (map f xs) ≡ map f (keep (λ x. p (f x)) xs)
  keep-map p [] = refl
  keep-map p (x ∷ xs) = go (p (f x)) (keep-map p xs)
    where
      go : (b : Bool) → keep p (map f xs) ≡ map f (keep (λ x. p (f x)) xs) →
          cond b (f x ∷ keep p (map f xs)) (keep p (map f xs)) ≡ map f (cond b (x ∷ keep (λ x. p (f x)) xs) (keep (λ x. p (f x)) xs))
      go true ih = rw ih
      go false ih = ih

  pub count_map : (p : Y → Bool) (xs : List X) → count p (map f xs) ≡ count (λ x. p (f x)) xs
  count_map p [] = refl
  count_map p (x ∷ xs) = rw (count_map p xs)

  pub numbered-map : (s : ℕ) (xs : List X) → numbered s (map f xs) ≡ map (λ (e : ℕ × X). (e.0, f e.1)) (numbered s xs)
  numbered-map s [] = refl
  numbered-map s (x ∷ xs) = rw (numbered-map (suc s) xs)
