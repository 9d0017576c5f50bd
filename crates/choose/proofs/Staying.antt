-- Which entries stay: all above t, and the last of those at t among the first n at or above t.
use mathlib.Core.Path.{◌≡◌, refl, ap, sym, ◌∙◌}
use mathlib.Core.Bool.{Bool, true, false, cond}
use mathlib.Core.List.{List, [], ◌∷◌, ◌++◌, map, append-nil, append_assoc, map-append}
use Prim.Native.Nat.{ℕ, ◌+◌, ◌-◌, ◌≤◌, ◌<◌}
use native.Mathlib.Nat.{zero-add}
use native.Mathlib.Omega.{arith}
use lib.ListN.{length, take, drop, take-append-drop, length-take, length-drop, length-append}
use lib.Seq.{drop-drop, take-take, slice}
use borrow.Author.Tests.{leb-true, ltb-true, eqb-true, le-leb, le-ltb, ne_eqb}
use Rattle.lists.specs.Keep.{bit, keep, count, Each}
use Rattle.choose.specs.Falling.{reaches, above, at, falling}
use Rattle.choose.specs.Choose.{without_first, displace, stay, simply}
use Rattle.lists.proofs.Keep.{either, each_append, each_take, each-drop, each-kept, keep_append, keep-none, keep-keep, keep-map, count-append, count-split, count-keep, count-keep-implied, length-keep, count-all, take-keep, drop-keep, take-map, drop-map}
use Rattle.choose.proofs.Falling.{count-reaches, length-falling, falling-reaching}

module _ {X : Type 0} (ord : X → ℕ) where
  module _ (t : ℕ) where
    at-not-above : (x : X) → at ord t x ≡ true → above ord t x ≡ false
    at-not-above x e = le-ltb t (ord x) (omega (arith, eqb-true (ord x) t e))

    above-not-at : (x : X) → above ord t x ≡ true → at ord t x ≡ false
    above-not-at x e = ne_eqb (ord x) t (λ q. omega (arith, ltb-true t (ord x) e))

    -- ---- without the first at t

    without-above : (ks : List X) → keep (above ord t) (without_first ord t ks) ≡ keep (above ord t) ks
    without-above [] = refl
    without-above (x ∷ xs) = go (at ord t x) refl (without-above xs)
      where
        go : (b : Bool) → at ord t x ≡ b → keep (above ord t) (without_first ord t xs) ≡ keep (above ord t) xs → keep (above ord t) (without_first ord t (x ∷ xs)) ≡ keep (above ord t) (x ∷ xs)
        go true e ih = rw (e, at-not-above x e)
        go false e ih = rw (e, ih)

    without_at : (ks : List X) → keep (at ord t) (without_first ord t ks) ≡ drop 1 (keep (at ord t) ks)
    without_at [] = refl
    without_at (x ∷ xs) = go (at ord t x) refl (without_at xs)
      where
        go : (b : Bool) → at ord t x ≡ b → keep (at ord t) (without_first ord t xs) ≡ drop 1 (keep (at ord t) xs) → keep (at ord t) (without_first ord t (x ∷ xs)) ≡ drop 1 (keep (at ord t) (x ∷ xs))
        go true e ih = rw e
        go false e ih = rw e (rw e ih)

    pub each-without : (P : X → Type 0) (ks ys : List X) → Each P (ks ++ ys) → Each P (without_first ord t ks ++ ys)
    each-without P [] ys h = h
    each-without P (k ∷ ks) ys h = either (λ (r : List X). Each P (r ++ ys)) (at ord t k) h.1 (h.0, each-without P ks ys h.1)

    count-without : (p : X → Bool) (ks : List X) → count p (without_first ord t ks) ≤ count p ks
    count-without p [] = omega arith
    count-without p (x ∷ xs) = either (λ (r : List X). count p r ≤ bit (p x) + count p xs) (at ord t x) (omega arith) (omega (arith, count-without p xs))

    -- ---- displaced

    -- x in the place of the first at t
    abbrev after : List X → X → List X
    after ks x = without_first ord t ks ++ (x ∷ [])

    abbrev Above : List X → List X → Type 0
    Above ks xs = keep (above ord t) (displace ord t ks xs) ≡ keep (above ord t) ks ++ keep (above ord t) xs

    displace-above : (ks xs : List X) → Above ks xs
    displace-above ks [] = sym (append-nil (keep (above ord t) ks))
    displace-above ks (x ∷ xs) = go (above ord t x) refl (displace-above (after ks x) xs) (displace-above ks xs)
      where
        go : (b : Bool) → above ord t x ≡ b → Above (after ks x) xs → Above ks xs → Above ks (x ∷ xs)
        go true e i j = rw e (i ∙ rw (keep_append (above ord t) (without_first ord t ks) (x ∷ []), without-above ks, e) (append_assoc (keep (above ord t) ks) (x ∷ []) (keep (above ord t) xs)))
        go false e i j = rw e j

    abbrev At : List X → List X → Type 0
    At ks xs = keep (at ord t) (displace ord t ks xs) ≡ drop (count (above ord t) xs) (keep (at ord t) ks)

    displace-at : (ks xs : List X) → At ks xs
    displace-at ks [] = refl
    displace-at ks (x ∷ xs) = go (above ord t x) refl (displace-at (after ks x) xs) (displace-at ks xs)
      where
        go : (b : Bool) → above ord t x ≡ b → At (after ks x) xs → At ks xs → At ks (x ∷ xs)
        go true e i j =
            rw e (i ∙ rw (keep_append (at ord t) (without_first ord t ks) (x ∷ []), without_at ks, above-not-at x e, append-nil (drop 1 (keep (at ord t) ks))) (drop-drop (count (above ord t) xs) 1 (keep (at ord t) ks)))
        go false e i j = rw (e, zero-add (count (above ord t) xs)) j

    each-displace : (P : X → Type 0) (ks xs : List X) → Each P ks → Each P xs → Each P (displace ord t ks xs)
    each-displace P ks [] h k = h
    each-displace P ks (x ∷ xs) h k =
        either (Each P) (above ord t x) (each-displace P (after ks x) xs (each-without P ks (x ∷ []) (each_append P ks (x ∷ []) h (k.0, tt))) k.1) (each-displace P ks xs h k.1)

    count-displace : (p : X → Bool) (ks xs : List X) → count p (displace ord t ks xs) ≤ count p ks + count p xs
    count-displace p ks [] = omega arith
    count-displace p ks (x ∷ xs) =
        either (λ (r : List X). count p r ≤ count p ks + (bit (p x) + count p xs)) (above ord t x)
        (omega (arith, count-displace p (after ks x) xs, count-append p (without_first ord t ks) (x ∷ []), count-without p ks)) (omega (arith, count-displace p ks xs))

    -- ---- among those at or above t

    above-reaches : (x : X) → above ord t x ≡ true → reaches ord t x ≡ true
    above-reaches x e = le-leb t (ord x) (omega (arith, ltb-true t (ord x) e))

    above-reaching : (ys : List X) → keep (above ord t) (keep (reaches ord t) ys) ≡ keep (above ord t) ys
    above-reaching ys = keep-keep (above ord t) (reaches ord t) ys above-reaches

    count-reaching : (ys : List X) → count (above ord t) (keep (reaches ord t) ys) ≡ count (above ord t) ys
    count-reaching ys = count-keep-implied (above ord t) (reaches ord t) ys above-reaches

    at-reaching : (ys : List X) → keep (at ord t) (keep (reaches ord t) ys) ≡ keep (at ord t) ys
    at-reaching ys = keep-keep (at ord t) (reaches ord t) ys (λ x e. le-leb t (ord x) (omega (arith, eqb-true (ord x) t e)))

    above-again : (ys : List X) → keep (above ord t) (keep (above ord t) ys) ≡ keep (above ord t) ys
    above-again ys = keep-keep (above ord t) (above ord t) ys (λ x e. e)

    none-at : (ys : List X) → keep (at ord t) (keep (above ord t) ys) ≡ []
    none-at ys = keep-none (at ord t) (keep (above ord t) ys) (each-kept (λ x. at ord t x ≡ false) (above ord t) ys above-not-at)

    reach : (ys : List X) → Each (λ x. t ≤ ord x) (keep (reaches ord t) ys)
    reach ys = each-kept (λ x. t ≤ ord x) (reaches ord t) ys (λ x e. leb-true t (ord x) e)

    reach-above : (ys : List X) → Each (λ x. t ≤ ord x) (keep (above ord t) ys)
    reach-above ys = each-kept (λ x. t ≤ ord x) (above ord t) ys (λ x e. omega (arith, ltb-true t (ord x) e))

    -- all above t, and those at t from b up to e
    abbrev pub parts : ℕ → ℕ → List X → List X
    parts b e xs = keep (above ord t) (take b xs) ++ (keep (reaches ord t) (slice b e xs) ++ keep (above ord t) (drop e xs))

  -- ---- those that stay

  module _ (n t : ℕ) (xs : List X) where
    abbrev tops : List X
    tops = keep (reaches ord t) xs

    abbrev ties : List X
    ties = keep (at ord t) (take n tops)

    stay-above : keep (above ord t) (stay ord n t xs) ≡ keep (above ord t) xs
    unfolding stay
    stay-above =
        displace-above t (take n tops) (drop n tops) ∙ sym (keep_append (above ord t) (take n tops) (drop n tops)) ∙ ap (keep (above ord t)) (take-append-drop n tops) ∙
        above-reaching t xs

    stay-at : keep (at ord t) (stay ord n t xs) ≡ drop (count (above ord t) (drop n tops)) ties
    unfolding stay
    stay-at = displace-at t (take n tops) (drop n tops)

    pub stay-each : (P : X → Type 0) → Each P tops → Each P (stay ord n t xs)
    unfolding stay
    stay-each P h = each-displace t P (take n tops) (drop n tops) (each_take P n tops h) (each-drop P n tops h)

    pub stay-reaches : Each (λ x. t ≤ ord x) (stay ord n t xs)
    stay-reaches = stay-each (λ x. t ≤ ord x) (reach t xs)

    pub stay-count : (p : X → Bool) → count p (stay ord n t xs) ≤ count p xs
    unfolding stay
    stay-count p = omega (arith, count-displace t p (take n tops) (drop n tops), count-split p n tops, count-keep p (reaches ord t) xs)

    stay-falling : falling ord (stay ord n t xs) ≡ falling ord (keep (above ord t) xs) ++ drop (count (above ord t) (drop n tops)) ties
    stay-falling = falling-reaching ord t (stay ord n t xs) stay-reaches ∙ rw (stay-above, stay-at)

    -- a test that all at or above t pass changes nothing
    pub stay-keep : (p : X → Bool) → ((x : X) → reaches ord t x ≡ true → p x ≡ true) → stay ord n t (keep p xs) ≡ stay ord n t xs
    unfolding stay
    stay-keep p h = rw (keep-keep (reaches ord t) p xs h)

    -- as many are displaced as leave n in all
    module _ (few : count (above ord t) xs < n) (enough : n ≤ count (reaches ord t) xs) where
      all-reach : count (reaches ord t) (take n tops) ≡ length (take n tops)
      all-reach = count-all (reaches ord t) (take n tops) (each_take (λ x. reaches ord t x ≡ true) n tops (each-kept (λ x. reaches ord t x ≡ true) (reaches ord t) xs (λ x e. e)))

      first-ties : length ties + count (above ord t) (take n tops) ≡ n
      first-ties = omega (arith, length-keep (at ord t) (take n tops), count-reaches ord t (take n tops), all-reach, length-take n tops, length-keep (reaches ord t) xs)

      displaced : count (above ord t) (drop n tops) + (n - count (above ord t) xs) ≡ length ties
      displaced = omega (arith, first-ties, count-split (above ord t) n tops, count-reaching t xs)

      pub stay-simply : falling ord (stay ord n t xs) ≡ simply ord n t xs
      unfolding simply
      stay-simply =
          stay-falling ∙ ap (λ (d : ℕ). falling ord (keep (above ord t) xs) ++ drop d ties) {x = count (above ord t) (drop n tops)} {y = length ties - (n - count (above ord t) xs)} (omega (arith, displaced))

      pub simply-length : length (simply ord n t xs) ≡ n
      unfolding simply
      simply-length = simp (length-append, length-falling, length-drop) (omega (arith, displaced, length-keep (above ord t) xs))

    -- the same entries in slot order, where the first n at or above t end at e, and b is past as many at t as are displaced
    module _ (b e : ℕ) (before : b ≤ e) (first : count (reaches ord t) (take e xs) ≡ n) (passed : count (at ord t) (take b (take e xs)) ≡ count (above ord t) (drop e xs)) where
      joined : take b xs ++ (slice b e xs ++ drop e xs) ≡ xs
      joined =
          sym (append_assoc (take b xs) (slice b e xs) (drop e xs)) ∙
          ap (λ (r : List X). r ++ drop e xs) (ap (λ (r : List X). r ++ slice b e xs) (sym (take-take b e xs before)) ∙ take-append-drop b (take e xs)) ∙
          take-append-drop e xs

      parts-above : keep (above ord t) (parts t b e xs) ≡ keep (above ord t) xs
      parts-above = simp (keep_append, above-again t, above-reaching t) (sym (simp keep_append at (ap (keep (above ord t)) (sym joined))))

      first-tops : take n tops ≡ keep (reaches ord t) (take e xs)
      first-tops = rw first at (take-keep (reaches ord t) e xs)

      later-tops : drop n tops ≡ keep (reaches ord t) (drop e xs)
      later-tops = rw first at (drop-keep (reaches ord t) e xs)

      parts_at : keep (at ord t) (parts t b e xs) ≡ drop (count (above ord t) (drop n tops)) ties
      parts_at = simp (keep_append, none-at t, at-reaching t, first-tops, later-tops, count-reaching t, ← passed, drop-keep) (append-nil (keep (at ord t) (slice b e xs)))

      parts-reach : Each (λ x. t ≤ ord x) (parts t b e xs)
      parts-reach =
          each_append (λ x. t ≤ ord x) (keep (above ord t) (take b xs)) (keep (reaches ord t) (slice b e xs) ++ keep (above ord t) (drop e xs)) (reach-above t (take b xs))
          (each_append (λ x. t ≤ ord x) (keep (reaches ord t) (slice b e xs)) (keep (above ord t) (drop e xs)) (reach t (slice b e xs)) (reach-above t (drop e xs)))

      pub stay-parts : falling ord (parts t b e xs) ≡ falling ord (stay ord n t xs)
      stay-parts = falling-reaching ord t (parts t b e xs) parts-reach ∙ rw (parts-above, parts_at) (sym stay-falling)

  -- ---- under a map

  module _ {Y : Type 0} (f : Y → X) where
    abbrev of : Y → ℕ
    of y = ord (f y)

    without-map : (t : ℕ) (ys : List Y) → without_first ord t (map f ys) ≡ map f (without_first of t ys)
    without-map t [] = refl
    without-map t (y ∷ ys) = go (at of t y) (without-map t ys)
      where
        go : (b : Bool) → without_first ord t (map f ys) ≡ map f (without_first of t ys) → cond b (map f ys) (f y ∷ without_first ord t (map f ys)) ≡ map f (cond b ys (y ∷ without_first of t ys))
        go true ih = refl
        go false ih = rw ih

    abbrev Mapped : ℕ → List Y → List Y → Type 0
    Mapped t ks ys = displace ord t (map f ks) (map f ys) ≡ map f (displace of t ks ys)

    displace-map : (t : ℕ) (ks ys : List Y) → Mapped t ks ys
    displace-map t ks [] = refl
    displace-map t ks (y ∷ ys) = go (above of t y) refl (displace-map t (without_first of t ks ++ (y ∷ [])) ys) (displace-map t ks ys)
      where
        go : (b : Bool) → above of t y ≡ b → Mapped t (without_first of t ks ++ (y ∷ [])) ys → Mapped t ks ys → Mapped t ks (y ∷ ys)
        go true e i j = rw (e, without-map t ks, ← map-append f (without_first of t ks) (y ∷ [])) i
        go false e i j = rw e j

    pub stay-map : (n t : ℕ) (ys : List Y) → stay ord n t (map f ys) ≡ map f (stay of n t ys)
    unfolding stay
    stay-map n t ys =
        let tops : List Y = keep (reaches of t) ys in
        rw (keep-map f (reaches ord t) ys, take-map f n tops, drop-map f n tops) (displace-map t (take n tops) (drop n tops))
