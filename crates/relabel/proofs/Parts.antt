-- The parts of a mark after relabelling: where they differ from those before.
use mathlib.Core.Path.{◌≡◌, refl}
use mathlib.Core.Bool.{Bool, true, false, cond}
use Prim.Native.Nat.{ℕ}
use lib.Dec.{eqb}
use Rattle.index.specs.State.{Mark, dead, unkeyed, keyed, key_word}
use Rattle.index.specs.Step.{holds, relabelled}

module _ (j k : ℕ) where
  pub relabelled-word : (m : Mark) → key_word (relabelled j k m) ≡ cond (holds j m) k (key_word m)
  relabelled-word (dead u) = refl
  relabelled-word (unkeyed u) = refl
  relabelled-word (keyed i p) = go (eqb i j)
    where
      go : (b : Bool) → key_word (cond b (keyed k p) (keyed i p)) ≡ cond b k i
      go true = refl
      go false = refl

  -- a part that is the same under every key
  pub relabelled-part : {B : Type 0} (g : Mark → B) → ((i p : ℕ) → g (keyed k p) ≡ g (keyed i p)) → (m : Mark) → g (relabelled j k m) ≡ g m
  relabelled-part g same (dead u) = refl
  relabelled-part g same (unkeyed u) = refl
  relabelled-part g same (keyed i p) = go (eqb i j)
    where
      go : (b : Bool) → g (cond b (keyed k p) (keyed i p)) ≡ g (keyed i p)
      go true = same i p
      go false = refl
