-- What the choice of slots gives: how many, each at most once, falling, none left out that is higher; and that it looks at order numbers and at
-- the list's order only.
use mathlib.Core.Path.{◌≡◌, ap, sym, ◌∙◌, subst}
use mathlib.Core.Bool.{Bool}
use mathlib.Core.List.Memᴰ
use mathlib.Core.List.{List, [], ◌∷◌, map, map-map, Memᴰ}
use mathlib.Core.Logic.{⊎_elim}
use Prim.Native.Nat.{ℕ, suc, ◌-◌, pred, min, max, ◌≤◌, ◌<◌}
use native.Mathlib.Omega.{arith}
use lib.ListN.{length, take, get_or, length-map}
use lib.Seq.{take-nil, drop-nil}
use borrow.Author.Tests.{leb-true, lt-ltb}
use Rattle.lists.specs.Keep.{keep, count, Each, last}
use Rattle.choose.specs.Falling.{reaches, above, at, Falls, falling}
use Rattle.choose.specs.Choose.{wanted, threshold, stay, choose, simply, Ranks}
use Rattle.lists.proofs.Keep.{each_weaken, each_keep, mem-keep, count-implied}
use Rattle.choose.proofs.Falling.{le-or-lt, count-reaches, count-falling, length-falling, each-falling, mem-falling, falls-falling, falls-above, falls-reaches, falling-map}
use Rattle.choose.proofs.Staying.{stay-each, stay-reaches, stay-count, stay-simply, simply-length, stay-map}

module _ {X : Type 0} (ord : X → ℕ) where
  -- ---- T is the n-th highest order number, and no other number is

  pub ranks : (n t : ℕ) (xs : List X) → count (above ord t) xs < n → n ≤ count (reaches ord t) xs → Ranks ord n t xs
  ranks n t xs few enough = record { occurs = omega (arith, count-reaches ord t xs); few = few; enough = enough }

  pub ranks-le : (n t u : ℕ) (xs : List X) → count (above ord t) xs < n → n ≤ count (reaches ord u) xs → u ≤ t
  ranks-le n t u xs few enough =
      ⊎_elim (λ l. l) (λ h. absurd (omega (arith, count-implied (reaches ord u) (above ord t) xs (λ x e. lt-ltb t (ord x) (omega (arith, leb-true u (ord x) e)))))) (le-or-lt u t)

  -- the n-th, or where there are fewer the lowest
  threshold-is : (n : ℕ) (xs : List X) → 0 < n → 0 < length xs → Ranks ord (min n (length xs)) (threshold ord n xs) xs
  threshold-is n xs h l =
      let m : ℕ = min n (length xs) in
      let t : ℕ = threshold ord n xs in
      let j : pred m < length (falling ord xs) = omega (arith, length-falling ord xs) in
      ranks m t xs (omega (arith, count-falling ord (above ord t) xs, falls-above ord (falling ord xs) (pred m) (falls-falling ord xs) j))
      (omega (arith, count-falling ord (reaches ord t) xs, falls-reaches ord (falling ord xs) (pred m) (falls-falling ord xs) j))

  pub threshold-ranks : (n : ℕ) (xs : List X) → 0 < n → n ≤ length xs → Ranks ord n (threshold ord n xs) xs
  threshold-ranks n xs h l = subst (λ (m : ℕ). Ranks ord m (threshold ord n xs) xs) {x = min n (length xs)} {y = n} (omega arith) (threshold-is n xs h (omega arith))

  pub threshold-lowest : (n : ℕ) (xs : List X) → 0 < length xs → length xs ≤ n → Ranks ord (length xs) (threshold ord n xs) xs
  threshold-lowest n xs h l = subst (λ (m : ℕ). Ranks ord m (threshold ord n xs) xs) {x = min n (length xs)} {y = length xs} (omega arith) (threshold-is n xs (omega arith) h)

  pub threshold-unique : (n t : ℕ) (xs : List X) → 0 < n → n ≤ length xs → Ranks ord n t xs → threshold ord n xs ≡ t
  threshold-unique n t xs h l r =
      let s : Ranks ord n (threshold ord n xs) xs = threshold-ranks n xs h l in
      omega (arith, ranks-le n t (threshold ord n xs) xs r.few s.enough, ranks-le n (threshold ord n xs) t xs s.few r.enough)

  -- ---- the choice

  pub choose-none : (k : ℕ) → choose ord k [] ≡ []
  unfolding choose stay
  choose-none k = simp (take-nil, drop-nil)

  module _ (k : ℕ) (xs : List X) where
    abbrev n : ℕ
    n = wanted ord k xs

    abbrev t : ℕ
    t = threshold ord n xs

  wanted-ranks : (k : ℕ) (x : X) (xs : List X) → Ranks ord (n k (x ∷ xs)) (t k (x ∷ xs)) (x ∷ xs)
  wanted-ranks k x xs = threshold-ranks (n k (x ∷ xs)) (x ∷ xs) (omega arith) (omega arith)

  -- said without displacing
  pub choose-simply : (k : ℕ) (xs : List X) → choose ord k xs ≡ simply ord (n k xs) (t k xs) xs
  unfolding choose simply
  choose-simply k [] = choose-none k ∙ simp (take-nil, drop-nil)
  choose-simply k (x ∷ xs) = stay-simply ord (n k (x ∷ xs)) (t k (x ∷ xs)) (x ∷ xs) (wanted-ranks k x xs).few (wanted-ranks k x xs).enough

  -- exactly min(max(k, 1), all)
  pub choose-length : (k : ℕ) (xs : List X) → length (choose ord k xs) ≡ min (max k 1) (length xs)
  choose-length k [] = ap length (choose-none k) ∙ omega arith
  choose-length k (x ∷ xs) =
      ap length (choose-simply k (x ∷ xs)) ∙ simply-length ord (n k (x ∷ xs)) (t k (x ∷ xs)) (x ∷ xs) (wanted-ranks k x xs).few (wanted-ranks k x xs).enough ∙ omega arith

  -- of k only this number counts
  pub choose-wanted : (k : ℕ) (xs : List X) → choose ord (min (max k 1) (length xs)) xs ≡ choose ord k xs
  unfolding choose
  choose-wanted k [] = choose-none (min (max k 1) 0) ∙ sym (choose-none k)
  choose-wanted k (x ∷ xs) =
      ap (λ (m : ℕ). falling ord (stay ord m (threshold ord m (x ∷ xs)) (x ∷ xs))) {x = n (min (max k 1) (suc (length xs))) (x ∷ xs)} {y = n k (x ∷ xs)} (omega arith)

  module _ (k : ℕ) (xs : List X) where
    abbrev stayed : List X
    stayed = stay ord (n k xs) (t k xs) xs

    -- each chosen entry is one of the list
    pub choose-each : (P : X → Type 0) → Each P xs → Each P (choose ord k xs)
    unfolding choose
    choose-each P h = each-falling ord P stayed (stay-each ord (n k xs) (t k xs) xs P (each_keep P (reaches ord (t k xs)) xs h))

    -- and none is chosen more often than it stands there
    pub choose-count : (p : X → Bool) → count p (choose ord k xs) ≤ count p xs
    unfolding choose
    choose-count p = omega (arith, count-falling ord p stayed, stay-count ord (n k xs) (t k xs) xs p)

    pub choose-falls : Falls ord (choose ord k xs)
    unfolding choose
    choose-falls = falls-falling ord stayed

    higher-chosen : (x : X) → Memᴰ x xs → t k xs < ord x → Memᴰ x (choose ord k xs)
    unfolding simply
    higher-chosen x m h =
        subst (λ (r : List X). Memᴰ x r) (sym (choose-simply k xs))
        (Memᴰ.append_left (last (n k xs - count (above ord (t k xs)) xs) (keep (at ord (t k xs)) (take (n k xs) (keep (reaches ord (t k xs)) xs)))) (mem-falling ord (mem-keep (above ord (t k xs)) (lt-ltb (t k xs) (ord x) h) m)))

    -- an entry that is not chosen is at most each that is
    pub choose-others : (x : X) → Memᴰ x xs → (Memᴰ x (choose ord k xs) → ⊥) → Each (λ y. ord x ≤ ord y) (choose ord k xs)
    unfolding choose
    choose-others x m out =
        each-falling ord (λ y. ord x ≤ ord y) stayed
        (each_weaken (λ y. t k xs ≤ ord y) (λ y. ord x ≤ ord y) stayed (λ y l. ⊎_elim (λ h. omega arith) (λ h. absurd (out (higher-chosen x m h))) (le-or-lt (ord x) (t k xs))) (stay-reaches ord (n k xs) (t k xs) xs))

  -- it looks at order numbers and at the list's order only
  module _ {Y : Type 0} (f : Y → X) where
    abbrev of : Y → ℕ
    of y = ord (f y)

    threshold-map : (m : ℕ) (ys : List Y) → threshold ord m (map f ys) ≡ threshold of m ys
    threshold-map m ys =
        let r = ap (map ord) (falling-map ord f ys) ∙ map-map ord f (falling of ys) in
        λ j. get_or (r j) (pred (min m (length-map ys f j))) 0

    pub choose-map : (k : ℕ) (ys : List Y) → choose ord k (map f ys) ≡ map f (choose of k ys)
    unfolding choose
    choose-map k ys =
        let m : ℕ = wanted of k ys in
        let u : ℕ = threshold of m ys in
        ap (λ (l : ℕ). let n = max (min k l) 1 in falling ord (stay ord n (threshold ord n (map f ys)) (map f ys))) (length-map ys f)
        ∙ ap (λ (v : ℕ). falling ord (stay ord m v (map f ys))) (threshold-map m ys) ∙ ap (falling ord) (stay-map ord f m u ys) ∙ falling-map ord f (stay of m u ys)
