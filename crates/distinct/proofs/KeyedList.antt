-- The keyed list by places: one more place adds its key and score just where it is the first of its key.
use mathlib.Core.Path.{◌≡◌, refl, sym, ap, ◌∙◌}
use mathlib.Core.Bool.{Bool, true, false, cond, not, ◌&&◌, ◌||◌, or-false, or-true, true≢false}
use mathlib.Core.List.{List, [], ◌∷◌, ◌++◌}
use mathlib.Core.Option.{Option, none, some}
use Prim.Native.Nat.{ℕ, zero, suc, ◌<◌, min}
use native.Mathlib.Nat.{zero-min, min-zero, suc-min-suc, min-le_left, min-le_right}
use native.Mathlib.Omega.{arith}
use lib.ListN.{length, get_or}
use lib.Seq.{ext_get_or}
use lib.Dec.{eqb}
use lib.Ieee.{Float, nan}
use borrow.Author.Tests.{eqb-true, eq-eqb, ne_eqb}
use Rattle.lists.specs.Lists.{tab, zip_with}
use Rattle.lists.specs.Keep.{any}
use Rattle.lists.proofs.Laws.{length-tab, get_or-tab}
use Rattle.lists.proofs.Entries.{get_d_zip}
use Rattle.slot_keys.specs.Has.{key_at}
use Rattle.index.specs.Step.{Hit, by_key}
use Rattle.previous.specs.Previous.{last_below, place_word, place_keyed, place_has, previous}
use Rattle.distinct.specs.Distinct.{hit_at, keyed_list}
use Rattle.distinct.specs.Places.{place_hit, keyed_to}

-- ---- a list followed by another

-- the hit has the key
abbrev pub has_key : ℕ → Hit → Bool
has_key k x = elim x.key [ none ↦ false | some j ↦ eqb j k ]

-- the keys that were seen once the hits are gone through
unfoldable pub seen_after : (seen : List ℕ) → List Hit → List ℕ
seen_after seen [] = seen
seen_after seen (x ∷ xs) = elim x.key [ none ↦ seen_after seen xs | some k ↦ cond (any (eqb k) seen) (seen_after seen xs) (seen_after (k ∷ seen) xs) ]

pub by-key-append : (seen : List ℕ) (xs ys : List Hit) → by_key seen (xs ++ ys) ≡ by_key seen xs ++ by_key (seen_after seen xs) ys
unfolding by_key seen_after
by-key-append seen [] ys = refl
by-key-append seen (x ∷ xs) ys = go x.key refl (λ s. by-key-append s xs ys)
  where
    go : (o : Option ℕ) → x.key ≡ o → ((s : List ℕ) → by_key s (xs ++ ys) ≡ by_key s xs ++ by_key (seen_after s xs) ys) →
        by_key seen ((x ∷ xs) ++ ys) ≡ by_key seen (x ∷ xs) ++ by_key (seen_after seen (x ∷ xs)) ys
    go none e ih = rw e (ih seen)
    go (some k) e ih = rw e (inner (any (eqb k) seen))
      where
        inner : (b : Bool) → cond b (by_key seen (xs ++ ys)) ((k, x.score) ∷ by_key (k ∷ seen) (xs ++ ys)) ≡
            cond b (by_key seen xs) ((k, x.score) ∷ by_key (k ∷ seen) xs) ++ by_key (cond b (seen_after seen xs) (seen_after (k ∷ seen) xs)) ys
        inner true = ih seen
        inner false = rw (ih (k ∷ seen))

-- a key was seen where it was seen before, or a hit has it
pub seen-has : (k : ℕ) (seen : List ℕ) (xs : List Hit) → any (eqb k) (seen_after seen xs) ≡ (any (eqb k) seen || any (has_key k) xs)
unfolding seen_after any
seen-has k seen [] = sym (or-false (any (eqb k) seen))
seen-has k seen (x ∷ xs) = go x.key refl (λ s. seen-has k s xs)
  where
    go : (o : Option ℕ) → x.key ≡ o → ((s : List ℕ) → any (eqb k) (seen_after s xs) ≡ (any (eqb k) s || any (has_key k) xs)) →
        any (eqb k) (seen_after seen (x ∷ xs)) ≡ (any (eqb k) seen || any (has_key k) (x ∷ xs))
    go none e ih = rw e (ih seen)
    go (some j) e ih = rw e (inner (any (eqb j) seen) refl (eqb j k) refl)
      where
        inner : (b : Bool) → any (eqb j) seen ≡ b → (c : Bool) → eqb j k ≡ c →
            any (eqb k) (cond b (seen_after seen xs) (seen_after (j ∷ seen) xs)) ≡ (any (eqb k) seen || (c || any (has_key k) xs))
        inner true f true g = let q : any (eqb k) seen ≡ true = rw (eqb-true j k g) at f in ih seen ∙ rw q
        inner true f false g = ih seen
        inner false f true g = ih (j ∷ seen) ∙ rw (eq-eqb k j (sym (eqb-true j k g)), or-true (any (eqb k) seen))
        inner false f false g = ih (j ∷ seen) ∙ rw (ne_eqb k j (λ e. true≢false (sym (eq-eqb j k (sym e)) ∙ g)))

any_append : {A : Type 0} (p : A → Bool) (xs ys : List A) → any p (xs ++ ys) ≡ (any p xs || any p ys)
unfolding any
any_append p [] ys = refl
any_append p (x ∷ xs) ys = go (p x) (any_append p xs ys)
  where
    go : (b : Bool) → any p (xs ++ ys) ≡ (any p xs || any p ys) → (b || any p (xs ++ ys)) ≡ ((b || any p xs) || any p ys)
    go true ih = refl
    go false ih = ih

-- ---- the places

module _ {A B C : Type 0} (f : A → B → C) where
  length-zip-min : (xs : List A) (ys : List B) → length (zip_with f xs ys) ≡ min (length xs) (length ys)
  length-zip-min [] ys = sym (zero-min (length ys))
  length-zip-min (x ∷ xs) [] = sym (min-zero (suc (length xs)))
  length-zip-min (x ∷ xs) (y ∷ ys) = ap suc (length-zip-min xs ys) ∙ sym (suc-min-suc (length xs) (length ys))

  -- two lists zipped, by their entries
  pub zip-entries : (xs : List A) (ys : List B) (a : A) (b : B) (c : C) → zip_with f xs ys ≡ tab (λ i. f (get_or xs i a) (get_or ys i b)) (min (length xs) (length ys))
  zip-entries xs ys a b c =
      ext_get_or c _ _ (length-zip-min xs ys ∙ sym (length-tab (λ i. f (get_or xs i a) (get_or ys i b)) (min (length xs) (length ys))))
      (λ i l.
      let k : i < min (length xs) (length ys) = rw (length-zip-min xs ys) at l in
      get_d_zip f xs ys i a b c (omega (arith, min-le_left (length xs) (length ys))) (omega (arith, min-le_right (length xs) (length ys)))
      ∙ sym (get_or-tab (λ j. f (get_or xs j a) (get_or ys j b)) (min (length xs) (length ys)) i c k))

-- what a place adds to the list
abbrev pub added : (mark : Bool) → (name : ℕ) → (score : Float) → List (ℕ × Float)
added b k x = cond b ((k, x) ∷ []) []

module _ (keys : List ℕ) (keyed : List Bool) (slots : List ℕ) (scores : List Float) where
  abbrev hit : ℕ → Hit
  hit = place_hit keys keyed slots scores

  abbrev has : (key place : ℕ) → Bool
  has = place_has keys keyed slots

  hit-has : (k p : ℕ) → has_key k (hit p) ≡ has k p
  unfolding key_at
  hit-has k p = go (place_keyed keyed slots p)
    where
      go : (b : Bool) → ◌≡◌ {A = Bool} (elim (cond b (some (place_word keys slots p)) none) [ none ↦ false | some j ↦ eqb j k ]) (b && eqb (place_word keys slots p) k)
      go true = refl
      go false = refl

  -- a key is among the hits of the first places where one of them has it
  any-lower : (k i : ℕ) → any (has_key k) (tab hit i) ≡ not (eqb (last_below (has k) i) 0)
  unfolding any
  any-lower k zero = refl
  any-lower k (suc i) = any_append (has_key k) (tab hit i) (hit i ∷ []) ∙ rw (any-lower k i, hit-has k i) (go (last_below (has k) i) (has k i))
    where
      go : (n : ℕ) (b : Bool) → (not (eqb n 0) || (b || false)) ≡ not (eqb (cond b (suc i) n) 0)
      go n true = or-true (not (eqb n 0)) ∙ rw (ne_eqb (suc i) 0 (λ e. omega arith))
      go n false = or-false (not (eqb n 0))

  -- a key of the place i was seen where a lower place has it
  seen-lower : (k i : ℕ) → any (eqb k) (seen_after [] (tab hit i)) ≡ not (eqb (last_below (has k) i) 0)
  unfolding any
  seen-lower k i = seen-has k [] (tab hit i) ∙ any-lower k i

  -- the place has a key, and no lower place has it
  abbrev first : (place : ℕ) → Bool
  first p = place_keyed keyed slots p && eqb (previous keys keyed slots p) 0

  pub keyed-next : (i : ℕ) → keyed_to keys keyed slots scores (suc i) ≡ keyed_to keys keyed slots scores i ++ added (first i) (place_word keys slots i) (get_or scores i nan)
  unfolding by_key previous key_at
  keyed-next i =
      by-key-append [] (tab hit i) (hit i ∷ [])
      ∙ ap (λ (l : List (ℕ × Float)). keyed_to keys keyed slots scores i ++ l) (go (place_keyed keyed slots i))
    where
      go : (b : Bool) →
          ◌≡◌ {A = List (ℕ × Float)}
          (elim (cond b (some (place_word keys slots i)) none) [ none ↦ [] | some k ↦ cond (any (eqb k) (seen_after [] (tab hit i))) [] ((k, get_or scores i nan) ∷ []) ])
          (added (b && eqb (cond b (last_below (has (place_word keys slots i)) i) 0) 0) (place_word keys slots i) (get_or scores i nan))
      go true = rw (seen-lower (place_word keys slots i) i) (inner (eqb (last_below (has (place_word keys slots i)) i) 0))
        where
          inner : (c : Bool) → ◌≡◌ {A = List (ℕ × Float)} (cond (not c) [] ((place_word keys slots i, get_or scores i nan) ∷ [])) (added c (place_word keys slots i) (get_or scores i nan))
          inner true = refl
          inner false = refl
      go false = refl

  -- the keyed list is that of as many places as there are slots and scores
  pub keyed-all : keyed_list keys keyed slots scores ≡ keyed_to keys keyed slots scores (min (length slots) (length scores))
  unfolding keyed_list
  keyed-all = ap (by_key []) (zip-entries (hit_at keys keyed) slots scores 0 nan (hit 0))
