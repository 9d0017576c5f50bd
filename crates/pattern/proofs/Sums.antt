-- Sums in index order, one entry more at a time, as a loop adds them.
use mathlib.Core.Path.{◌≡◌, refl, ap, ◌∙◌}
use mathlib.Core.List.{List, [], ◌∷◌, ◌++◌, map, map-append}
use Prim.Native.Nat.{ℕ, suc, ◌<◌}
use lib.ListN.{length, take, get_or}
use lib.Seq.{take-suc}
use lib.Ieee.{Float}
use Rattle.pattern.specs.Binary32.{◌⊕◌, +0, sum_from, sum_of}

pub sum-snoc : (acc : Float) (xs : List Float) (x : Float) → sum_from acc (xs ++ (x ∷ [])) ≡ sum_from acc xs ⊕ x
unfolding sum_from
sum-snoc acc [] x = refl
sum-snoc acc (y ∷ xs) x = sum-snoc (acc ⊕ y) xs x

-- the sum over the first i + 1 entries, each as f gives it, from that over the first i
pub sum-next : {A : Type 0} (f : A → Float) (xs : List A) (i : ℕ) (d : A) → i < length xs →
    sum_of (map f (take (suc i) xs)) ≡ sum_of (map f (take i xs)) ⊕ f (get_or xs i d)
sum-next f xs i d h =
    ap (λ ys. sum_of (map f ys)) (take-suc xs i d h)
    ∙ rw (map-append f (take i xs) (get_or xs i d ∷ [])) (sum-snoc +0 (map f (take i xs)) (f (get_or xs i d)))
