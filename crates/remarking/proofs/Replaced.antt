-- Lists changed at some places, as a loop that counts up changes them.
use mathlib.Core.Path.{◌≡◌, refl, sym, ap, ◌∙◌}
use mathlib.Core.Bool.{Bool, true, false, cond}
use mathlib.Core.List.{List}
use Prim.Native.Nat.{ℕ, ◌+◌, ◌≤◌, ◌<◌}
use native.Mathlib.Omega.{arith}
use lib.ListN.{length, get_or, set}
use lib.Seq.{set-get_or}
use Rattle.lists.specs.Lists.{over}
use Rattle.lists.proofs.Laws.{length-tab, length_over, over-more}
use Rattle.lists.proofs.Front.{get_or-rest}
use Rattle.remarking.specs.Replaced.{replaced_where}

module _ {A : Type 0} (p : ℕ → Bool) (x d : A) (xs : List A) where
  pub replaced-none : replaced_where p 0 x d xs ≡ xs
  unfolding replaced_where over
  replaced-none = refl

  module _ (i : ℕ) (l : i ≤ length xs) where
    pub replaced-length : length (replaced_where p i x d xs) ≡ length xs
    unfolding replaced_where
    replaced-length = length_over _ xs (rw (length-tab (λ i. cond (p i) x (get_or xs i d)) i) l)

    -- places from i on are as they were
    pub replaced-later : (j : ℕ) → i ≤ j → get_or (replaced_where p i x d xs) j d ≡ get_or xs j d
    unfolding replaced_where
    replaced-later j k = get_or-rest _ xs j d (rw (length-tab (λ i. cond (p i) x (get_or xs i d)) i) k)

  pub replaced-more : (i : ℕ) → i < length xs → set (replaced_where p i x d xs) i (cond (p i) x (get_or xs i d)) ≡ replaced_where p (i + 1) x d xs
  unfolding replaced_where
  replaced-more i l = over-more (λ i. cond (p i) x (get_or xs i d)) i xs l

  pub replaced-next : (i : ℕ) (ys : List A) (b : Bool) → i < length xs → ys ≡ replaced_where p i x d xs → b ≡ p i → cond b (set ys i x) ys ≡ replaced_where p (i + 1) x d xs
  replaced-next i ys b l e h = go b h (replaced-more i l)
    where
      go : (b : Bool) → b ≡ p i → set (replaced_where p i x d xs) i (cond (p i) x (get_or xs i d)) ≡ replaced_where p (i + 1) x d xs →
          cond b (set ys i x) ys ≡ replaced_where p (i + 1) x d xs
      go true f m = rw e (rw (sym f) at m)
      go false f m =
          let kept = ap (set (replaced_where p i x d xs) i) (replaced-later i (omega arith) i (omega arith)) in
          rw e (sym (set-get_or (replaced_where p i x d xs) i d) ∙ kept ∙ (rw (sym f) at m))
