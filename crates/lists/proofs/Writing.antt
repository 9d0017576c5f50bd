-- A loop that writes f 0, f 1, .. over the first places of an array: its invariant, and what it leaves.
use mathlib.Core.Path.{◌≡◌, refl, ◌∙◌}
use mathlib.Core.List.{List, map, ◌++◌}
use Prim.Native.Nat.{ℕ, ◌+◌, ◌≤◌, ◌<◌}
use native.Mathlib.Omega.{arith}
use lib.ListN.{length, get_or, set, take, drop, length-set}
use lib.Seq.{length-take-le}
use Rattle.lists.specs.Lists.{tab, over}
use Rattle.lists.proofs.Laws.{get_d_default, length-tab, over-all, over-more}
use Rattle.lists.proofs.Front.{tab-map}

pub record Written {A : Type 0} (f : ℕ → A) (n i : ℕ) (old xs : List A) : Type 0 where
  pub few : i ≤ n
  pub written : xs ≡ over (tab f i) old
  pub same : length xs ≡ length old

module _ {A : Type 0} (f : ℕ → A) (n : ℕ) (old : List A) (room : n ≤ length old) where
  pub written_none : Written f n 0 old old
  unfolding over
  written_none = record { few = omega arith; written = refl; same = refl }

  pub written-more : {i : ℕ} {xs : List A} → Written f n i old xs → i < n → Written f n (i + 1) old (set xs i (f i))
  written-more {i} {xs} m l = record { few = omega arith; written = rw m.written (over-more f i old (omega arith)); same = length-set xs i (f i) ∙ m.same }

  pub written_all : {i : ℕ} {xs : List A} → Written f n i old xs → n ≤ i → xs ≡ over (tab f n) old
  written_all {i} {xs} m l = let e : i ≡ n = omega (arith, m.few) in rw e at m.written

-- where all places are written
pub written-whole : {A : Type 0} (f : ℕ → A) (old : List A) {i : ℕ} {xs : List A} → Written f (length old) i old xs → length old ≤ i → xs ≡ tab f (length old)
written-whole f old m l = written_all f (length old) old (omega arith) m l ∙ over-all (tab f (length old)) old (length-tab f (length old))

-- where they are the first n places of more
pub written-part : {A : Type 0} (f : ℕ → A) (n : ℕ) (old : List A) → n ≤ length old → {i : ℕ} {xs : List A} → Written f (length (take n old)) i (take n old) xs
    → length (take n old) ≤ i → xs ++ drop n old ≡ over (tab f n) old
unfolding over
written-part f n old room {i} {xs} m l =
    let few : length (take n old) ≡ n = length-take-le n old room in
    rw (written-whole f (take n old) {i = i} {xs = xs} m l, few, length-tab f n)

-- where the places are as many as the entries of a list, and f goes by the entries
pub written-map : {A B : Type 0} (g : A → B) (d : A) (xs : List A) (old : List B) → length old ≡ length xs → {i : ℕ} {ys : List B} →
    Written (λ j. g (get_or xs j d)) (length xs) i old ys → length xs ≤ i → ys ≡ map g xs
written-map g d xs old e {i} {ys} m l =
    written-whole (λ j. g (get_or xs j d)) old {i = i} {xs = ys} (rw e m) (omega arith) ∙ rw e (tab-map g (λ j. g (get_or xs j d)) xs (λ j a h. rw (get_d_default xs j d a h)))
