-- The numbers from a on as std's ranges give them: in two runs, what is tested of them, and what is written by them.
use mathlib.Core.Path.{◌≡◌, refl, sym, ap, ◌∙◌}
use mathlib.Core.Bool.{Bool, false, ◌||◌}
use mathlib.Core.List.{List, [], ◌∷◌, ◌++◌, map, map-append}
use Prim.Native.Nat.{ℕ, zero, suc, ◌+◌, ◌≤◌}
use native.Mathlib.Nat.{add-zero, zero-add, suc-add}
use native.Mathlib.Omega.{arith}
use lib.ListN.{length}
use lib.Seq.{sets, sets-eq}
use Rattle.std.specs.List.{list_any, range_with_len}
use Rattle.std.proofs.lemmas.Bool.{or_parts}
use Rattle.std.proofs.lemmas.List.Folds.{list_any-append}
use Rattle.std.proofs.lemmas.List.FromFn.{length-map-range_with_len, length-range_with_len, get_or-range_with_len}
use Rattle.lists.specs.Lists.{tab, over, below}
use Rattle.lists.specs.Keep.{Each, any}
use Rattle.lists.proofs.Laws.{length-tab}
use Rattle.lists.proofs.Keep.{sets-append}
use Rattle.lists.proofs.Front.{map-tab, tab-is}

pub range-below : (n : ℕ) → range_with_len 0 n ≡ below n
range-below n =
    sym (tab-is (λ i. i) (range_with_len 0 n) (λ i d l. omega (arith, get_or-range_with_len 0 n i d (rw (length-range_with_len 0 n) at l))))
    ∙ ap below (length-range_with_len 0 n)

range-append : (a m k : ℕ) → range_with_len a (m + k) ≡ range_with_len a m ++ range_with_len (a + m) k
range-append a zero k = rw (add-zero a, zero-add k) refl
range-append a (suc m) k = rw (suc-add m k, range-append (a + 1) m k) (ap (λ (b : ℕ). a ∷ (range_with_len (a + 1) m ++ range_with_len b k)) (omega arith))

-- the first m of n, and the k others, from b on
module _ (a m b k n : ℕ) (e : a + m ≡ b) (f : m + k ≡ n) where
  range_split : range_with_len a n ≡ range_with_len a m ++ range_with_len b k
  range_split = rw (← e, ← f) (range-append a m k)

  pub any_split : (p : ℕ → Bool) → list_any p (range_with_len a n) ≡ (list_any p (range_with_len a m) || list_any p (range_with_len b k))
  any_split p = rw range_split (list_any-append p (range_with_len a m) (range_with_len b k))

  pub sets_more : {A : Type 0} (g : ℕ → A) (xs : List A) {ys zs : List A} → ys ≡ sets xs a (map g (range_with_len a m)) →
      zs ≡ sets ys b (map g (range_with_len b k)) → zs ≡ sets xs a (map g (range_with_len a n))
  sets_more g xs h l =
      rw (
        range_split,
        map-append g (range_with_len a m) (range_with_len b k),
        sets-append xs a (map g (range_with_len a m)) (map g (range_with_len b k)),
        length-map-range_with_len g a m,
        e,
        ← h,
      ) l

pub sets_front : {A : Type 0} (f : ℕ → A) (n : ℕ) (xs : List A) → n ≤ length xs → sets xs 0 (map f (range_with_len 0 n)) ≡ over (tab f n) xs
unfolding over
sets_front f n xs h = rw (range-below n, map-tab f (λ i. i) n, ← zero-add (length (tab f n))) (sets-eq (tab f n) xs 0 (omega (arith, length-tab f n)))

-- the library's test of some entry
pub list-any : {X : Type 0} (p : X → Bool) (xs : List X) → list_any p xs ≡ any p xs
unfolding any
list-any p [] = refl
list-any p (x ∷ xs) = ap (λ (b : Bool). p x || b) (list-any p xs)

pub none_any : (p : ℕ → Bool) (is : List ℕ) → list_any p is ≡ false → Each (λ i. p i ≡ false) is
none_any p [] e = tt
none_any p (i ∷ is) e = let r = or_parts (p i) (list_any p is) e in (r.0, none_any p is r.1)

pub any-map : (p : ℕ → Bool) (is : List ℕ) → list_any p is ≡ list_any (λ b. b) (map p is)
any-map p [] = refl
any-map p (i ∷ is) = ap (λ (b : Bool). p i || b) (any-map p is)
