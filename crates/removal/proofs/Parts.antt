-- The parts of a mark after a removal: where they differ from those before.
use mathlib.Core.Path.{◌≡◌, refl}
use mathlib.Core.Bool.{Bool, true, false, cond, ◌&&◌}
use Prim.Native.Nat.{ℕ, ◌+◌}
use lib.Dec.{eqb}
use Rattle.lists.specs.Keep.{bit}
use Rattle.index.specs.State.{Mark, dead, unkeyed, keyed, is_live, key_word, position}
use Rattle.index.specs.Step.{holds, holds_at, removed, gap_filled}

-- Both removals at once: a slot that passes the test dies, another that has a key gets its place.
abbrev pub killing : (dies : Mark → Bool) → (place : Mark → ℕ) → Mark → Mark
killing dies place (dead u) = dead u
killing dies place (unkeyed u) = unkeyed u
killing dies place (keyed k p) = cond (dies (keyed k p)) (dead k) (keyed k (place (keyed k p)))

-- the place that a single removal leaves a slot
abbrev pub placed : (key gap last : ℕ) → Mark → ℕ
placed j gap last m = cond (holds_at j last m) gap (position m)

pub removed-kills : (j : ℕ) (m : Mark) → removed j m ≡ killing (holds j) position m
removed-kills j (dead u) = refl
removed-kills j (unkeyed u) = refl
removed-kills j (keyed k p) = refl

pub filled-kills : (j gap last : ℕ) (m : Mark) → gap_filled j gap last m ≡ killing (holds_at j gap) (placed j gap last) m
filled-kills j gap last (dead u) = refl
filled-kills j gap last (unkeyed u) = refl
filled-kills j gap last (keyed k p) = go (eqb k j) (eqb p gap) (eqb p last)
  where
    go : (b c d : Bool) → cond b (cond c (dead k) (cond d (keyed k gap) (keyed k p))) (keyed k p) ≡ cond (b && c) (dead k) (keyed k (cond (b && d) gap p))
    go true true d = refl
    go true false true = refl
    go true false false = refl
    go false c d = refl

module _ (dies : Mark → Bool) (place : Mark → ℕ) where
  pub killing-word : (m : Mark) → key_word (killing dies place m) ≡ key_word m
  killing-word (dead u) = refl
  killing-word (unkeyed u) = refl
  killing-word (keyed k p) = go (dies (keyed k p))
    where
      go : (b : Bool) → key_word (cond b (dead k) (keyed k (place (keyed k p)))) ≡ k
      go true = refl
      go false = refl

  -- only slots with a key die
  module _ (not_dead : (u : ℕ) → dies (dead u) ≡ false) (not-unkeyed : (u : ℕ) → dies (unkeyed u) ≡ false) where
    -- a part g that is x in a dead slot, and h of the mark before in all that stay
    pub killing-part : {B : Type 0} (g h : Mark → B) (x : B) → ((u : ℕ) → g (dead u) ≡ x) → ((u : ℕ) → g (dead u) ≡ h (dead u)) →
        ((u : ℕ) → g (unkeyed u) ≡ h (unkeyed u)) → ((k p : ℕ) → g (keyed k (place (keyed k p))) ≡ h (keyed k p)) → (m : Mark) → g (killing dies place m) ≡ cond (dies m) x (h m)
    killing-part g h x gone same-dead same-unkeyed same (dead u) = rw (not_dead u) (same-dead u)
    killing-part g h x gone same-dead same-unkeyed same (unkeyed u) = rw (not-unkeyed u) (same-unkeyed u)
    killing-part g h x gone same-dead same-unkeyed same (keyed k p) = go (dies (keyed k p))
      where
        go : (b : Bool) → g (cond b (dead k) (keyed k (place (keyed k p)))) ≡ cond b x (h (keyed k p))
        go true = gone k
        go false = same k p

    pub killing-live : (m : Mark) → bit (is_live m) ≡ bit (is_live (killing dies place m)) + bit (dies m)
    killing-live (dead u) = rw (not_dead u)
    killing-live (unkeyed u) = rw (not-unkeyed u)
    killing-live (keyed k p) = go (dies (keyed k p))
      where
        go : (b : Bool) → 1 ≡ bit (is_live (cond b (dead k) (keyed k (place (keyed k p))))) + bit b
        go true = refl
        go false = refl
