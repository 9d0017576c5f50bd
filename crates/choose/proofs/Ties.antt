-- Ties: entries of one order number are chosen in their order.
use mathlib.Core.Path.{◌≡◌, refl, sym, ap, subst, ◌∙◌}
use mathlib.Core.Bool.{Bool, true, false, cond}
use mathlib.Core.List.{List, [], ◌∷◌, ◌++◌, map, append-nil, append_assoc}
use Prim.Native.Nat.{ℕ, ◌<◌}
use native.Mathlib.Omega.{arith}
use lib.ListN.{take, drop, take-append-drop}
use lib.Dec.{T, leb}
use borrow.Author.Tests.{le-leb}
use Rattle.lists.specs.Keep.{keep, Each}
use Rattle.lists.proofs.Keep.{either, each_keep}
use Rattle.lists.proofs.Front.{each_map}
use Rattle.choose.specs.Falling.{reaches, above, at, insert, falling, RisesBy}
use Rattle.choose.specs.Choose.{wanted, threshold, without_first, displace, stay, choose}
use Rattle.choose.proofs.Falling.{each-falling}
use Rattle.choose.proofs.Staying.{each-without, stay-each}

-- ---- numbers that rise do so without some of the entries

module _ {X : Type 0} (number : X → ℕ) where
  pub rises-keep : (p : X → Bool) (xs : List X) → RisesBy number xs → RisesBy number (keep p xs)
  rises-keep p [] h = tt
  rises-keep p (x ∷ xs) h = either (RisesBy number) (p x) (each_keep (λ y. number x < number y) p xs h.0, rises-keep p xs h.1) (rises-keep p xs h.1)

  pub rises-map : {Y : Type 0} (f : Y → X) (ys : List Y) → RisesBy (λ y. number (f y)) ys → RisesBy number (map f ys)
  rises-map f [] h = tt
  rises-map f (y ∷ ys) h = (each_map (λ x. number (f y) < number x) f ys h.0, rises-map f ys h.1)

  -- without one entry
  each-less : (P : X → Type 0) (ks : List X) (x : X) (xs : List X) → Each P (ks ++ (x ∷ xs)) → Each P (ks ++ xs)
  each-less P [] x xs h = h.1
  each-less P (k ∷ ks) x xs h = (h.0, each-less P ks x xs h.1)

  rises-less : (ks : List X) (x : X) (xs : List X) → RisesBy number (ks ++ (x ∷ xs)) → RisesBy number (ks ++ xs)
  rises-less [] x xs h = h.1
  rises-less (k ∷ ks) x xs h = (each-less (λ y. number k < number y) ks x xs h.0, rises-less ks x xs h.1)

  -- ---- so they do among those that stay

  module _ (ord : X → ℕ) (t : ℕ) where
    rises-without : (ks ys : List X) → RisesBy number (ks ++ ys) → RisesBy number (without_first ord t ks ++ ys)
    rises-without [] ys h = h
    rises-without (k ∷ ks) ys h =
        either (λ (r : List X). RisesBy number (r ++ ys)) (at ord t k) h.1 (each-without ord t (λ y. number k < number y) ks ys h.0, rises-without ks ys h.1)

    rises-displace : (ks xs : List X) → RisesBy number (ks ++ xs) → RisesBy number (displace ord t ks xs)
    rises-displace ks [] h = subst (RisesBy number) (append-nil ks) h
    rises-displace ks (x ∷ xs) h =
        either (RisesBy number) (above ord t x)
        (rises-displace (without_first ord t ks ++ (x ∷ [])) xs (subst (RisesBy number) (sym (append_assoc (without_first ord t ks) (x ∷ []) xs)) (rises-without ks (x ∷ xs) h)))
        (rises-displace ks xs (rises-less ks x xs h))

    rises-stay : (n : ℕ) (xs : List X) → RisesBy number xs → RisesBy number (stay ord n t xs)
    unfolding stay
    rises-stay n xs h =
        let tops : List X = keep (reaches ord t) xs in
        rises-displace (take n tops) (drop n tops) (subst (RisesBy number) (sym (take-append-drop n tops)) (rises-keep (reaches ord t) xs h))

-- ---- entries with the order number u, p being a test that only such pass, stay in their order when the list is made to fall

module _ {X : Type 0} (ord : X → ℕ) (p : X → Bool) (u : ℕ) where
  abbrev pub Only : X → Type 0
  Only x = p x ≡ true → ord x ≡ u

  keep-insert : (x : X) (zs : List X) → Only x → Each Only zs → keep p (insert ord x zs) ≡ keep p (x ∷ zs)
  keep-insert x [] e h = refl
  keep-insert x (z ∷ zs) e h = go (leb (ord z) (ord x)) refl (p x) refl (p z) refl (keep-insert x zs e h.1)
    where
      go : (b : Bool) → leb (ord z) (ord x) ≡ b → (c : Bool) → p x ≡ c → (d : Bool) → p z ≡ d → keep p (insert ord x zs) ≡ keep p (x ∷ zs) →
          keep p (cond b (x ∷ z ∷ zs) (z ∷ insert ord x zs)) ≡ keep p (x ∷ z ∷ zs)
      go true f c px d pz ih = refl
      go false f c px false pz ih = rw pz ih
      go false f true px true pz ih = absurd (subst T (sym (le-leb (ord z) (ord x) (omega (arith, e px, h.0 pz))) ∙ f) tt)
      go false f false px true pz ih = rw (pz, px) (ap (λ (r : List X). z ∷ r) (rw px at ih))

  keep-falling : (xs : List X) → Each Only xs → keep p (falling ord xs) ≡ keep p xs
  keep-falling [] h = refl
  keep-falling (x ∷ xs) h =
      keep-insert x (falling ord xs) h.0 (each-falling ord Only xs h.1) ∙ ap (λ (r : List X). cond (p x) (x ∷ r) r) (keep-falling xs h.1)

  -- where the numbers of the list rise, those of the chosen ones with one order number do
  pub choose-ties : (number : X → ℕ) (k : ℕ) (xs : List X) → Each Only xs → RisesBy number xs → RisesBy number (keep p (choose ord k xs))
  unfolding choose
  choose-ties number k xs only h =
      let n : ℕ = wanted ord k xs in
      let t : ℕ = threshold ord n xs in
      subst (RisesBy number) (sym (keep-falling (stay ord n t xs) (stay-each ord n t xs Only (each_keep Only (reaches ord t) xs only))))
      (rises-keep number p (stay ord n t xs) (rises-stay number ord t n xs h))
