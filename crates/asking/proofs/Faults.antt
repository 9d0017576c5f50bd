-- What a search tests before any score, test by test.
use mathlib.Core.Path.{◌≡◌, refl, ap, ◌∙◌}
use mathlib.Core.Bool.{true, false}
use mathlib.Core.List.{[], ◌∷◌}
use Prim.Native.Nat.{ℕ, zero, suc, ◌≤◌, ◌<◌, min, max}
use borrow.Author.Tests.{lt-ltb, le-ltb}
use Rattle.encode.specs.Coded.{fault}
use Rattle.index.specs.declared.Index.{Index}
use Rattle.index.specs.Arrays.{Arrays}
use Rattle.index.specs.State.{header_of}
use Rattle.index.specs.Fit.{fit}
use Rattle.index.specs.Step.{Query, first_of}
use Rattle.asking.specs.Faults.{places_fault, search_fault}

module _ (x : Index) (a : Arrays) (k places : ℕ) where
  pub places-misfit : fit x a ≡ false → 13 ≡ places_fault x a k places
  unfolding places_fault first_of
  places-misfit e = rw e refl

  module _ (e : fit x a ≡ true) where
    pub places-short : places < min (max k 1) x.live → 13 ≡ places_fault x a k places
    unfolding places_fault first_of
    places-short l = rw (e, lt-ltb places (min (max k 1) x.live) l) refl

    pub places-enough : min (max k 1) x.live ≤ places → 0 ≡ places_fault x a k places
    unfolding places_fault first_of
    places-enough l = rw (e, le-ltb places (min (max k 1) x.live) l) refl

  module _ (q : Query) (n : ℕ) where
    pub search-places : n ≡ places_fault x a k places → (n ≡ 0 → ⊥) → n ≡ search_fault x a q k places
    unfolding search_fault first_of
    search-places e some = go n some ∙ ap (λ (m : ℕ). first_of (m ∷ fault (header_of x) q.vector ∷ [])) e
      where
        go : (m : ℕ) → (m ≡ 0 → ⊥) → m ≡ first_of (m ∷ fault (header_of x) q.vector ∷ [])
        go zero s = absurd (s refl)
        go (suc m) s = refl

    pub search-query : 0 ≡ places_fault x a k places → n ≡ fault (header_of x) q.vector → n ≡ search_fault x a q k places
    unfolding search_fault first_of
    search-query e f = go n ∙ (λ j. first_of (e j ∷ f j ∷ []))
      where
        go : (m : ℕ) → m ≡ first_of (0 ∷ m ∷ [])
        go zero = refl
        go (suc m) = refl
