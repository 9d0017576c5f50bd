-- The choice among the shortlist is the choice among all.
use mathlib.Core.Path.{◌≡◌, refl, ap, sym, ◌∙◌}
use mathlib.Core.Bool.{Bool, true, false, cond, ◌&&◌, ◌||◌, or-true, or-false}
use mathlib.Core.List.{List, [], ◌∷◌, ◌++◌, append-nil, append_assoc}
use mathlib.Core.Logic.{◌⊎◌, ⊎_elim}
use Prim.Native.Nat.{ℕ, suc, min, max, ◌≤◌, ◌<◌}
use native.Mathlib.Omega.{arith}
use lib.ListN.{length, take, drop, take-append-drop, drop_of_length-le, length-take, length-drop, length-append}
use lib.Seq.{take_all, take_at, drop_at, take-append-le, drop-append-le}
use lib.Dec.{leb, ltb}
use borrow.Author.Tests.{leb-true, ltb-true, le-leb, lt-leb, lt-ltb, le-ltb}
use Rattle.lists.specs.Keep.{keep, count, Each}
use Rattle.choose.specs.Falling.{reaches, above}
use Rattle.choose.specs.Choose.{wanted, threshold, displace, without_first, stay, choose, Ranks}
use Rattle.lists.proofs.Keep.{each_append, each_take, each-drop, each_keep, each-kept, keep_append, keep_all, keep-keep, length-keep, count-implied, count-keep-implied, count-all, count-length}
use Rattle.choose.proofs.Falling.{le-or-lt}
use Rattle.choose.proofs.Staying.{stay-keep}
use Rattle.choose.proofs.Choice.{ranks, ranks-le, threshold-ranks, threshold-unique, choose-wanted}
use Rattle.shortlist.specs.Shortlist.{shortlist}

module _ {X : Type 0} (ord : X → ℕ) where
  -- ---- those at or below low don't count where at least n are above it: T is above it too

  module _ (n low : ℕ) (xs : List X) (some : 0 < n) (many : n ≤ count (above ord low) xs) where
    abbrev higher : List X
    higher = keep (above ord low) xs

    abbrev T : ℕ
    T = threshold ord n xs

    T-ranks : Ranks ord n T xs
    T-ranks = threshold-ranks ord n xs some (omega (arith, count-length (above ord low) xs))

    T-above : low < T
    T-above = ranks-le ord n T (suc low) xs T-ranks.few many

    reaching : (x : X) → reaches ord T x ≡ true → above ord low x ≡ true
    reaching x e = lt-ltb low (ord x) (omega (arith, leb-true T (ord x) e, T-above))

    same-T : threshold ord n higher ≡ T
    same-T =
        threshold-unique ord n T higher some (rw (length-keep (above ord low) xs) many)
        (ranks ord n T higher (rw (count-keep-implied (above ord T) (above ord low) xs (λ x e. lt-ltb low (ord x) (omega (arith, ltb-true T (ord x) e, T-above)))) T-ranks.few)
        (rw (count-keep-implied (reaches ord T) (above ord low) xs reaching) T-ranks.enough))

    pub choose-above : choose ord n higher ≡ choose ord n xs
    unfolding choose
    choose-above =
        let all : wanted ord n xs ≡ n = omega (arith, count-length (above ord low) xs) in
        let all-higher : wanted ord n higher ≡ n = omega (arith, length-keep (above ord low) xs) in
        rw (all, all-higher, same-T, stay-keep ord n T xs (above ord low) reaching)

  -- ---- the shortlist

  -- what is not above t displaces nothing
  displace-keep : (t : ℕ) (ks xs : List X) → displace ord t ks (keep (above ord t) xs) ≡ displace ord t ks xs
  displace-keep t ks [] = refl
  displace-keep t ks (x ∷ xs) = go (above ord t x) refl (displace-keep t (without_first ord t ks ++ (x ∷ [])) xs) (displace-keep t ks xs)
    where
      go : (b : Bool) → above ord t x ≡ b → displace ord t (without_first ord t ks ++ (x ∷ [])) (keep (above ord t) xs) ≡ displace ord t (without_first ord t ks ++ (x ∷ [])) xs →
          displace ord t ks (keep (above ord t) xs) ≡ displace ord t ks xs → displace ord t ks (keep (above ord t) (x ∷ xs)) ≡ displace ord t ks (x ∷ xs)
      go true e i j = rw e (rw e i)
      go false e i j = rw e j

  module _ (n t : ℕ) (xs : List X) where
    abbrev tops : List X
    tops = keep (reaches ord t) xs

    abbrev short : List X
    short = shortlist ord n t xs

    pub all-reach : Each (λ x. reaches ord t x ≡ true) short
    unfolding shortlist
    all-reach =
        each_append (λ x. reaches ord t x ≡ true) (take n tops) (keep (above ord t) (drop n tops)) (each_take (λ x. reaches ord t x ≡ true) n tops reach)
        (each_keep (λ x. reaches ord t x ≡ true) (above ord t) (drop n tops) (each-drop (λ x. reaches ord t x ≡ true) n tops reach))
      where
        reach : Each (λ x. reaches ord t x ≡ true) tops
        reach = each-kept (λ x. reaches ord t x ≡ true) (reaches ord t) xs (λ x e. e)

    -- how many there are
    pub short-length : (min n (count (reaches ord t) xs) ≤ length short) × (length short ≤ count (reaches ord t) xs)
    unfolding shortlist
    short-length =
        simp length-append
        (omega (arith, length-take n tops, length-drop n tops, length-keep (reaches ord t) xs, length-keep (above ord t) (drop n tops), count-length (above ord t) (drop n tops)))

    same_above : keep (above ord t) short ≡ keep (above ord t) xs
    unfolding shortlist
    same_above =
        keep_append (above ord t) (take n tops) (keep (above ord t) (drop n tops)) ∙
        rw (keep-keep (above ord t) (above ord t) (drop n tops) (λ x e. e)) (sym (keep_append (above ord t) (take n tops) (drop n tops))) ∙ ap (keep (above ord t)) (take-append-drop n tops) ∙
        keep-keep (above ord t) (reaches ord t) xs (λ x e. le-leb t (ord x) (omega (arith, ltb-true t (ord x) e)))

    count-same-above : count (above ord t) short ≡ count (above ord t) xs
    count-same-above = omega (arith, ap length same_above, length-keep (above ord t) short, length-keep (above ord t) xs)

    module _ (some : 0 < n) (enough : n ≤ count (reaches ord t) xs) where
      first : length (take n tops) ≡ n
      first = omega (arith, length-take n tops, length-keep (reaches ord t) xs)

      same-stay : stay ord n t short ≡ stay ord n t xs
      unfolding stay shortlist
      same-stay =
          rw (keep_all (reaches ord t) short all-reach, take_at (take n tops) (keep (above ord t) (drop n tops)) n first, drop_at (take n tops) (keep (above ord t) (drop n tops)) n first)
          (displace-keep t (take n tops) (drop n tops))

      -- where T is t
      at-T : count (above ord t) xs < n → choose ord n short ≡ choose ord n xs
      unfolding choose
      at-T few =
          let long : n ≤ length short = omega (arith, short-length) in
          let T : threshold ord n xs ≡ t = threshold-unique ord n t xs some (omega (arith, count-length (reaches ord t) xs)) (ranks ord n t xs few enough) in
          let short-T : threshold ord n short ≡ t =
          threshold-unique ord n t short some long (ranks ord n t short (omega (arith, count-same-above)) (rw (count-all (reaches ord t) short all-reach) long)) in
          let all : wanted ord n xs ≡ n = omega (arith, count-length (reaches ord t) xs) in
          let all_short : wanted ord n short ≡ n = omega arith in
          rw (all, all_short, T, short-T, same-stay)

      -- where T is above t
      under-T : n ≤ count (above ord t) xs → choose ord n short ≡ choose ord n xs
      under-T many = sym (choose-above n t short some (rw count-same-above many)) ∙ ap (choose ord n) same_above ∙ choose-above n t xs some many

      pub choose-short : choose ord n short ≡ choose ord n xs
      choose-short = ⊎_elim under-T at-T (le-or-lt n (count (above ord t) xs))

  -- the choice of k, among those that take part
  module _ (k n t : ℕ) (xs : List X) (least : n ≡ max k 1) (positive : 0 < t) where
    abbrev live : List X
    live = keep (above ord 0) xs

    by_n : (ys : List X) → n ≤ length ys → choose ord n ys ≡ choose ord k ys
    by_n ys h = ap (λ (m : ℕ). choose ord m ys) {x = n} {y = min (max k 1) (length ys)} (omega arith) ∙ choose-wanted ord k ys

    enough-short : n ≤ length (shortlist ord n t xs) → choose ord k (shortlist ord n t xs) ≡ choose ord k live
    enough-short h =
        let enough : n ≤ count (reaches ord t) xs = omega (arith, short-length n t xs) in
        let part : n ≤ count (above ord 0) xs = omega (arith, count-implied (reaches ord t) (above ord 0) xs (λ x e. lt-ltb 0 (ord x) (omega (arith, leb-true t (ord x) e)))) in
        sym (by_n (shortlist ord n t xs) h) ∙ choose-short n t xs (omega arith) enough ∙ sym (choose-above n 0 xs (omega arith) part) ∙ by_n live (rw (length-keep (above ord 0) xs) part)

    all_short : t ≡ 1 → length (shortlist ord n t xs) < n → shortlist ord n t xs ≡ live
    unfolding shortlist
    all_short e h =
        let few : length (tops n t xs) ≤ n = omega (arith, short-length n t xs, length-keep (reaches ord t) xs) in
        rw (take_all n (tops n t xs) few, drop_of_length-le (tops n t xs) {i = n} few, e) (append-nil live)

    pub choose-live : (n ≤ length (shortlist ord n t xs)) ⊎ (t ≡ 1) → choose ord k (shortlist ord n t xs) ≡ choose ord k live
    choose-live = ⊎_elim enough-short (λ e. ⊎_elim enough-short (λ h. ap (choose ord k) (all_short e h)) (le-or-lt n (length (shortlist ord n t xs))))

  -- ---- one entry more

  module _ (n t : ℕ) (xs : List X) (x : X) where
    abbrev before : List X
    before = shortlist ord n t xs

    abbrev after : List X
    after = shortlist ord n t (xs ++ (x ∷ []))

    abbrev Next : Type 0
    Next = after ≡ cond (leb t (ord x) && (ltb t (ord x) || ltb (length before) n)) (before ++ (x ∷ [])) before

    tops-more : t ≤ ord x → keep (reaches ord t) (xs ++ (x ∷ [])) ≡ tops n t xs ++ (x ∷ [])
    tops-more h = keep_append (reaches ord t) xs (x ∷ []) ∙ rw (le-leb t (ord x) h)

    next-below : ord x < t → Next
    unfolding shortlist
    next-below h = rw (keep_append (reaches ord t) xs (x ∷ []), lt-leb t (ord x) h, append-nil (tops n t xs))

    next-first : t ≤ ord x → length (tops n t xs) < n → Next
    unfolding shortlist
    next-first h l =
        let same : before ≡ tops n t xs = rw (take_all n (tops n t xs) (omega arith), drop_of_length-le (tops n t xs) {i = n} (omega arith)) (append-nil (tops n t xs)) in
        let fits : length (tops n t xs ++ (x ∷ [])) ≤ n = simp length-append (omega arith) in
        rw (tops-more h, le-leb t (ord x) h, same, lt-ltb (length (tops n t xs)) n l, or-true (ltb t (ord x)), take_all n (tops n t xs ++ (x ∷ [])) fits, drop_of_length-le (tops n t xs ++ (x ∷ [])) {i = n} fits)
        (append-nil (tops n t xs ++ (x ∷ [])))

    next-later : t ≤ ord x → n ≤ length (tops n t xs) → Next
    unfolding shortlist
    next-later h l =
        let full : n ≤ length before = omega (arith, short-length n t xs, length-keep (reaches ord t) xs) in
        rw (tops-more h, le-leb t (ord x) h, le-ltb (length before) n full, or-false (ltb t (ord x)), take-append-le n (tops n t xs) (x ∷ []) l, drop-append-le n (tops n t xs) (x ∷ []) l, keep_append (above ord t) (drop n (tops n t xs)) (x ∷ []))
        (go (ltb t (ord x)))
      where
        go : (b : Bool) → take n (tops n t xs) ++ (keep (above ord t) (drop n (tops n t xs)) ++ cond b (x ∷ []) []) ≡ cond b (before ++ (x ∷ [])) before
        go true = sym (append_assoc (take n (tops n t xs)) (keep (above ord t) (drop n (tops n t xs))) (x ∷ []))
        go false = rw (append-nil (keep (above ord t) (drop n (tops n t xs))))

    pub short-next : Next
    short-next = ⊎_elim (λ h. ⊎_elim (next-later h) (next-first h) (le-or-lt n (length (tops n t xs)))) next-below (le-or-lt t (ord x))
