-- Entries that stand in a list, and tests that some entry passes.
use mathlib.Core.Path.{◌≡◌, refl, ap, sym, ◌∙◌, subst}
use mathlib.Core.Bool.{Bool, true, false, ◌||◌}
use mathlib.Core.List.{List, [], ◌∷◌, map, Memᴰ}
use lib.Dec.{T}
use Rattle.lists.specs.Keep.{Each, any}

module _ {X : Type 0} where
  -- what holds of each holds of an entry
  pub each_of : (P : X → Type 0) {x : X} {xs : List X} → Memᴰ x xs → Each P xs → P x
  each_of P (Memᴰ.head e) h = subst P (sym e) h.0
  each_of P (Memᴰ.tail m) h = each_of P m h.1

  pub mem-map : {Y : Type 0} (f : X → Y) {x : X} {xs : List X} → Memᴰ x xs → Memᴰ (f x) (map f xs)
  mem-map f (Memᴰ.head e) = Memᴰ.head (ap f e)
  mem-map f (Memᴰ.tail m) = Memᴰ.tail (mem-map f m)

  pub any_none : (p : X → Bool) (xs : List X) → any p xs ≡ false → Each (λ x. p x ≡ false) xs
  unfolding any
  any_none p [] e = tt
  any_none p (x ∷ xs) e = go (p x) refl e (any_none p xs)
    where
      go : (b : Bool) → p x ≡ b → (b || any p xs) ≡ false → (any p xs ≡ false → Each (λ y. p y ≡ false) xs) → (p x ≡ false) × Each (λ y. p y ≡ false) xs
      go true f e ih = absurd (subst T e tt)
      go false f e ih = (f, ih e)

  pub any_false : (p : X → Bool) (xs : List X) → Each (λ x. p x ≡ false) xs → any p xs ≡ false
  unfolding any
  any_false p [] h = refl
  any_false p (x ∷ xs) h = rw (h.0, any_false p xs h.1)

  pub any-mem : (p : X → Bool) {x : X} {xs : List X} → Memᴰ x xs → p x ≡ true → any p xs ≡ true
  unfolding any
  any-mem p (Memᴰ.head {xs = ys} e) t = rw (sym (ap p e) ∙ t)
  any-mem p (Memᴰ.tail {x = y} {xs = ys} m) t = go (p y) (any-mem p m t)
    where
      go : (b : Bool) → any p ys ≡ true → (b || any p ys) ≡ true
      go true ih = refl
      go false ih = ih
