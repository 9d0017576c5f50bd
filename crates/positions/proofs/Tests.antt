-- Laws of tests: conjunctions, lists of tests that all hold, and tests that all entries of a list pass.
use mathlib.Core.Path.{◌≡◌, refl, ap, ◌∙◌}
use mathlib.Core.Bool.{Bool, true, ◌&&◌}
use mathlib.Core.List.{List, [], ◌∷◌, Memᴰ}
use Prim.Native.Nat.{ℕ, zero, suc}
use lib.ListN.{get_or}
use Rattle.lists.specs.Keep.{all, every}
use Rattle.lists.proofs.Tests.{and_left, and_right}

pub both : (b c : Bool) → b ≡ true → c ≡ true → (b && c) ≡ true
both b c e f = rw (e, f)

-- each test of a list that all hold
pub each : (bs : List Bool) (i : ℕ) → every bs ≡ true → get_or bs i true ≡ true
unfolding every
each [] i h = refl
each (b ∷ bs) zero h = and_left b (every bs) h
each (b ∷ bs) (suc i) h = each bs i (and_right b (every bs) h)

-- and back
pub nothing : every [] ≡ true
unfolding every
nothing = refl

pub also : (b : Bool) (bs : List Bool) → b ≡ true → every bs ≡ true → every (b ∷ bs) ≡ true
unfolding every
also b bs e f = both b (every bs) e f

module _ {X : Type 0} (p : X → Bool) where
  pub all-mem : {x : X} {xs : List X} → Memᴰ x xs → all p xs ≡ true → p x ≡ true
  unfolding all
  all-mem (Memᴰ.head {x = y} {xs = ys} e) h = ap p e ∙ and_left (p y) (all p ys) h
  all-mem (Memᴰ.tail {x = y} {xs = ys} m) h = all-mem m (and_right (p y) (all p ys) h)

  pub mem-all : (xs : List X) → ((x : X) → Memᴰ x xs → p x ≡ true) → all p xs ≡ true
  unfolding all
  mem-all [] h = refl
  mem-all (x ∷ xs) h = both (p x) (all p xs) (h x (Memᴰ.head refl)) (mem-all xs (λ y m. h y (Memᴰ.tail m)))
