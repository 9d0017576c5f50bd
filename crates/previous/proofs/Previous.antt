-- What linking leaves, and what the last number that passes a test says about how many do.
use mathlib.Core.Path.{◌≡◌, refl, ap, sym, ◌∙◌}
use mathlib.Core.Bool.{Bool, true, false, cond}
use mathlib.Core.List.{List, [], ◌∷◌, ◌++◌}
use Prim.Native.Nat.{ℕ, zero, suc, ◌+◌, ◌≤◌, ◌<◌}
use native.Mathlib.Omega.{arith}
use lib.ListN.{length, drop, get_or}
use borrow.Author.Tests.{le-leb}
use Rattle.lists.specs.Lists.{tab, over, below}
use Rattle.lists.specs.Keep.{bit, count}
use Rattle.lists.proofs.Laws.{length-tab}
use Rattle.lists.proofs.Keep.{count-append}
use Rattle.previous.specs.Previous.{last_below, place_word, place_has, previous, linked}

module _ (keys : List ℕ) (keyed : List Bool) (slots before : List ℕ) where
  pub linked-all : length slots ≤ 65536 → length slots ≤ length before → linked keys keyed slots before ≡ over (tab (previous keys keyed slots) (length slots)) before
  unfolding linked
  linked-all few room = rw (le-leb (length slots) 65536 few, le-leb (length slots) (length before) room)

  -- the entries, put back where they were lent
  pub linked-part : length slots ≤ 65536 → length slots ≤ length before → {part : List ℕ} → part ≡ tab (previous keys keyed slots) (length slots) →
      part ++ drop (length slots) before ≡ linked keys keyed slots before
  unfolding over
  linked-part few room e = rw e (sym (linked-all few room ∙ rw (length-tab (previous keys keyed slots) (length slots))))

module _ (p : ℕ → Bool) where
  count-more : (n : ℕ) → count p (below (suc n)) ≡ count p (below n) + bit (p n)
  count-more n = omega (arith, count-append p (below n) (n ∷ []))

  pub last-low : (n : ℕ) → last_below p n ≤ n
  last-low zero = omega arith
  last-low (suc n) = go (p n) (last-low n)
    where
      go : (b : Bool) → last_below p n ≤ n → cond b (suc n) (last_below p n) ≤ suc n
      go true ih = omega arith
      go false ih = omega arith

  pub last-passes : (n j : ℕ) → last_below p n ≡ suc j → p j ≡ true
  last-passes zero j e = absurd (omega arith)
  last-passes (suc n) j e = go (p n) refl e (last-passes n j)
    where
      go : (b : Bool) → p n ≡ b → cond b (suc n) (last_below p n) ≡ suc j → (last_below p n ≡ suc j → p j ≡ true) → p j ≡ true
      go true q z ih = let m : n ≡ j = omega arith in rw m at q
      go false q z ih = ih z

  -- how many numbers below n pass, by the last of them
  pub count_none : (n : ℕ) → last_below p n ≡ 0 → count p (below n) ≡ 0
  count_none zero e = refl
  count_none (suc n) e = go (p n) refl e (count_none n)
    where
      go : (b : Bool) → p n ≡ b → cond b (suc n) (last_below p n) ≡ 0 → (last_below p n ≡ 0 → count p (below n) ≡ 0) → count p (below (suc n)) ≡ 0
      go true q z ih = absurd (omega arith)
      go false q z ih = omega (arith, count-more n, ap bit q, ih z)

  pub count-last : (n j : ℕ) → last_below p n ≡ suc j → count p (below n) ≡ suc (count p (below j))
  count-last zero j e = absurd (omega arith)
  count-last (suc n) j e = go (p n) refl e (count-last n j)
    where
      go : (b : Bool) → p n ≡ b → cond b (suc n) (last_below p n) ≡ suc j → (last_below p n ≡ suc j → count p (below n) ≡ suc (count p (below j))) →
          count p (below (suc n)) ≡ suc (count p (below j))
      go true q z ih = let m : n ≡ j = omega arith in rw (← m) (omega (arith, count-more n, ap bit q))
      go false q z ih = omega (arith, count-more n, ap bit q, ih z)

pub last-same : (p q : ℕ → Bool) (n : ℕ) → ((i : ℕ) → i < n → p i ≡ q i) → last_below p n ≡ last_below q n
last-same p q zero h = refl
last-same p q (suc n) h = rw (last-same p q n (λ i l. h i (omega arith)), h n (omega arith))

-- a place, by the slots up to it
pub previous-same : (keys : List ℕ) (keyed : List Bool) (slots slots' : List ℕ) (p : ℕ) → ((i : ℕ) → i ≤ p → get_or slots i 0 ≡ get_or slots' i 0) →
    previous keys keyed slots p ≡ previous keys keyed slots' p
unfolding previous
previous-same keys keyed slots slots' p same =
    rw (
      same p (omega arith),
      last-same (place_has keys keyed slots (place_word keys slots' p)) (place_has keys keyed slots' (place_word keys slots' p)) p (λ i l. rw (same i (omega arith))),
    )
