-- Lists of digits: the test, parts.
use mathlib.Core.Path.{◌≡◌, refl, sym}
use mathlib.Core.List.{List, [], ◌∷◌, ◌++◌}
use mathlib.Core.Bool.{Bool, true, false, ◌&&◌, and-true, and_assoc}
use Prim.Native.Nat.{ℕ, zero, suc, ◌<◌, ◌≤◌, suc-le-suc, zero-le}
use native.Mathlib.Nat.{zero-lt-suc, lt_of_le_of_lt}
use borrow.Author.Tests.{ltb-true, lt-ltb, le-ltb}
use lib.Dec.{ltb}
use lib.ListN.{length, get_or, take, drop}
use lib.Seq.{take-suc}
use Rattle.lists.proofs.Tests.{both}
use Rattle.digits.specs.Digits.{Below, digits_below}

module _ (B : ℕ) where
  pub base-pos : (ds : List ℕ) → Below B ds → 0 < B
  base-pos ds h = lt_of_le_of_lt zero-le (h 0)

  pub below-yes : (ds : List ℕ) → ((i : ℕ) → i < length ds → get_or ds i 0 < B) → digits_below B ds ≡ true
  below-yes [] h = refl
  below-yes (d ∷ ds) h = rw (lt-ltb d B (h 0 (zero-lt-suc (length ds)))) (below-yes ds (λ i l. h (suc i) (suc-le-suc l)))

  pub below-no : (ds : List ℕ) (i : ℕ) → i < length ds → B ≤ get_or ds i 0 → digits_below B ds ≡ false
  below-no [] i l h = elim l [ ]
  below-no (d ∷ ds) zero l h = rw (le-ltb d B h)
  below-no (d ∷ ds) (suc i) (suc-le-suc l) h = go (ltb d B) (below-no ds i l h)
    where
      go : (t : Bool) → digits_below B ds ≡ false → (t && digits_below B ds) ≡ false
      go true e = e
      go false e = refl

  pub below_true : 0 < B → (ds : List ℕ) → digits_below B ds ≡ true → Below B ds
  below_true pos [] h i = pos
  below_true pos (d ∷ ds) h zero = ltb-true d B (both (ltb d B) (digits_below B ds) h).0
  below_true pos (d ∷ ds) h (suc i) = below_true pos ds (both (ltb d B) (digits_below B ds) h).1 i

  -- the test, one digit more
  below-snoc : (ds : List ℕ) (d : ℕ) → digits_below B (ds ++ (d ∷ [])) ≡ (digits_below B ds && ltb d B)
  below-snoc [] d = and-true (ltb d B)
  below-snoc (x ∷ ds) d = rw (below-snoc ds d) (sym (and_assoc (ltb x B) (digits_below B ds) (ltb d B)))

  pub below_next : (ds : List ℕ) (i : ℕ) → i < length ds → digits_below B (take (suc i) ds) ≡ (digits_below B (take i ds) && ltb (get_or ds i 0) B)
  below_next ds i h = rw (take-suc ds i 0 h) (below-snoc (take i ds) (get_or ds i 0))

  pub below-drop : (n : ℕ) (ds : List ℕ) → Below B ds → Below B (drop n ds)
  below-drop zero ds h = h
  below-drop (suc n) [] h = h
  below-drop (suc n) (d ∷ ds) h = below-drop n ds (λ i. h (suc i))

  pub below-take : (n : ℕ) (ds : List ℕ) → Below B ds → Below B (take n ds)
  below-take zero ds h i = base-pos ds h
  below-take (suc n) [] h i = h i
  below-take (suc n) (d ∷ ds) h zero = h zero
  below-take (suc n) (d ∷ ds) h (suc i) = below-take n ds (λ k. h (suc k)) i
