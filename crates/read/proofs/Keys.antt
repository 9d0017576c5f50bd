-- The keys that entries give, and one entry more.
use mathlib.Core.Path.{◌≡◌, refl, sym, ap, ap₂, ◌∙◌}
use mathlib.Core.Bool.{Bool, true, false, cond, ◌&&◌}
use mathlib.Core.List.{List, [], ◌∷◌, ◌++◌}
use mathlib.Core.Logic.{◌≢◌}
use mathlib.Core.Option.{Option, none, some}
use Prim.Native.Nat.{ℕ, zero, suc, ◌+◌, ◌≤◌}
use native.Mathlib.Numerals.{add-one}
use native.Mathlib.Omega.{arith}
use lib.ListN.{length, take, drop, set, replicate}
use Rattle.std.proofs.lemmas.List.{replicate_more}
use lib.Seq.{set-append_left, length-take-le}
use lib.Dec.{ltb, eqb}
use borrow.Author.Tests.{ltb-true, ltb-false, eq-eqb, eqb-true, ne_eqb}
use Rattle.lists.specs.Lists.{tab, over}
use Rattle.lists.specs.Keep.{bit, count, Each}
use Rattle.lists.proofs.Laws.{length-tab, tab-ext}
use Rattle.lists.proofs.Keep.{count-append, each_weaken}
use Rattle.lists.proofs.Entries.{set-tab}
use Rattle.lists.proofs.Front.{each-count}
use Rattle.index.specs.Read.{KeyEntry, entry_from, well_keyed, key_from, mark_from}
use Rattle.index.specs.State.{has_key, key_word}
use Rattle.index.proofs.Fits.{all-each}
use Rattle.lists.proofs.Tests.{and_right}
use Rattle.read.specs.Table.{slots_from, key_by, word_from, on_from}

-- ---- no slot twice: the last entry of a slot is the first

-- a slot that is well keyed comes once at most
once : (n : ℕ) (ss : List ℕ) → well_keyed n ss ≡ true → (s : ℕ) → count (eqb s) ss ≤ 1
once n ss e s = go (ltb 0 (count (eqb s) ss)) refl
  where
    counted : Each (λ t. eqb s t ≡ true → count (eqb s) ss ≡ 1) ss
    counted =
        each_weaken (λ t. (ltb t n && eqb (count (eqb t) ss) 1) ≡ true) (λ t. eqb s t ≡ true → count (eqb s) ss ≡ 1) ss
        (λ t h q. rw (eqb-true s t q) (eqb-true (count (eqb t) ss) 1 (and_right (ltb t n) (eqb (count (eqb t) ss) 1) h)))
        (all-each (λ t. ltb t n && eqb (count (eqb t) ss) 1) ss e)

    go : (b : Bool) → ltb 0 (count (eqb s) ss) ≡ b → count (eqb s) ss ≤ 1
    go true h = omega (arith, each-count (eqb s) ss counted (ltb-true 0 (count (eqb s) ss) h))
    go false h = omega (arith, ltb-false 0 (count (eqb s) ss) h)

key-append : (es : List KeyEntry) (e : KeyEntry) (s : ℕ) → key_from (es ++ (e ∷ [])) s ≡ elim (key_from es s) [ none ↦ cond (eqb e.slot s) (some e.key) none | some k ↦ some k ]
unfolding key_from
key-append [] e s = refl
key-append (d ∷ es) e s = go (eqb d.slot s) (key-append es e s)
  where
    go : (b : Bool) → key_from (es ++ (e ∷ [])) s ≡ elim (key_from es s) [ none ↦ cond (eqb e.slot s) (some e.key) none | some k ↦ some k ] →
        cond b (some d.key) (key_from (es ++ (e ∷ [])) s) ≡ elim (cond b (some d.key) (key_from es s)) [ none ↦ cond (eqb e.slot s) (some e.key) none | some k ↦ some k ]
    go true ih = refl
    go false ih = ih

module _ (f : ℕ → KeyEntry) where
  abbrev slots_of : ℕ → List ℕ
  slots_of k = tab (λ i. (f i).slot) k

  -- no entry names the slot
  no_key : (s i : ℕ) → count (eqb s) (slots_of i) ≡ 0 → key_by f i s ≡ none
  unfolding key_by
  no_key s zero e = refl
  no_key s (suc i) e = go (eqb s (f i).slot) refl (no_key s i)
    where
      c : count (eqb s) (slots_of (suc i)) ≡ count (eqb s) (slots_of i) + bit (eqb s (f i).slot)
      c = omega (arith, count-append (eqb s) (slots_of i) ((f i).slot ∷ []))

      go : (b : Bool) → eqb s (f i).slot ≡ b → (count (eqb s) (slots_of i) ≡ 0 → key_by f i s ≡ none) → cond (eqb (f i).slot s) (some (f i).key) (key_by f i s) ≡ none
      go true q ih = absurd (omega (arith, c, ap bit q))
      go false q ih = rw (ne_eqb (f i).slot s (λ z. absurd (omega (arith, ap bit q, ap bit (eq-eqb s (f i).slot (sym z)))))) (ih (omega (arith, c)))

  last-first : (s k : ℕ) → count (eqb s) (slots_of k) ≤ 1 → key_from (tab f k) s ≡ key_by f k s
  unfolding key_by key_from
  last-first s zero l = refl
  last-first s (suc i) l = key-append (tab f i) (f i) s ∙ go (eqb (f i).slot s) refl (last-first s i (omega (arith, count-append (eqb s) (slots_of i) ((f i).slot ∷ []))))
    where
      c : count (eqb s) (slots_of (suc i)) ≡ count (eqb s) (slots_of i) + bit (eqb s (f i).slot)
      c = omega (arith, count-append (eqb s) (slots_of i) ((f i).slot ∷ []))

      same : (o : Option ℕ) → elim o [ none ↦ none | some k ↦ some k ] ≡ o
      same none = refl
      same (some k) = refl

      go : (b : Bool) → eqb (f i).slot s ≡ b → key_from (tab f i) s ≡ key_by f i s → elim (key_from (tab f i) s) [ none ↦ cond b (some (f i).key) none | some k ↦ some k ] ≡ cond b (some (f i).key) (key_by f i s)
      go true q ih = rw (ih ∙ no_key s i (omega (arith, c, ap bit (eq-eqb s (f i).slot (sym (eqb-true (f i).slot s q))))))
      go false q ih = same (key_from (tab f i) s) ∙ ih

-- the keys of a sound table are those that reading gives
pub keys-are : (n : ℕ) (table : List ℕ) (k s : ℕ) → well_keyed n (slots_from table k) ≡ true → key_from (tab (entry_from table) k) s ≡ key_by (entry_from table) k s
unfolding slots_from
keys-are n table k s e = last-first (entry_from table) s k (once n (tab (λ i. (entry_from table i).slot) k) e s)

-- ---- arrays

-- one value over the first places, as `fill` writes it
pub filled : {A : Type 0} (v : A) (n : ℕ) (xs : List A) → n ≤ length xs → replicate (length (take n xs)) v ++ drop n xs ≡ over (tab (λ _. v) n) xs
unfolding over
filled {A} v n xs l = rw (length-take-le n xs l, same n, length-tab {A = A} (λ _. v) n)
  where
    same : (m : ℕ) → replicate m v ≡ tab (λ _. v) m
    same zero = refl
    same (suc m) = rw (← same m) (sym (rw (add-one m) at (replicate_more m v)))

-- one place gets another value
module _ {A : Type 0} (f g : ℕ → A) (n s : ℕ) (v : A) (here : g s ≡ v) (other : (j : ℕ) → j ≢ s → g j ≡ f j) (old : List A) where
  pub given : (xs : List A) → xs ≡ over (tab f n) old → cond (ltb s n) (set xs s v) xs ≡ over (tab g n) old
  unfolding over
  given xs e = rw e (go (ltb s n) refl)
    where
      ends : drop (length (tab f n)) old ≡ drop (length (tab g n)) old
      ends = ap (λ (i : ℕ). drop i old) (length-tab f n ∙ sym (length-tab g n))

      go : (b : Bool) → ltb s n ≡ b → cond b (set (tab f n ++ drop (length (tab f n)) old) s v) (tab f n ++ drop (length (tab f n)) old) ≡ tab g n ++ drop (length (tab g n)) old
      go true l =
          set-append_left (tab f n) (drop (length (tab f n)) old) s v (rw (length-tab f n) (ltb-true s n l))
          ∙ ap₂ (λ (ys zs : List A). ys ++ zs) (set-tab f g n s v (ltb-true s n l) here other) ends
      go false l =
          ap₂ (λ (ys zs : List A). ys ++ zs) (tab-ext f g n (λ j h. sym (other j (λ q. absurd (omega (arith, ltb-false s n l, q)))))) ends

module _ (table : List ℕ) (n : ℕ) (keys₀ : List ℕ) (keyed₀ : List Bool) where
  -- the first i entries have given their keys
  pub record Given (keys : List ℕ) (keyed : List Bool) (i : ℕ) : Type 0 where
    pub words : keys ≡ over (tab (word_from table i) n) keys₀
    pub marks : keyed ≡ over (tab (on_from table i) n) keyed₀

  pub given-none : {keys : List ℕ} {keyed : List Bool} → keys ≡ over (tab (λ _. 0) n) keys₀ → keyed ≡ over (tab (λ _. false) n) keyed₀ → Given keys keyed 0
  unfolding key_by
  given-none e f = record { words = e; marks = f }

  module _ {keys : List ℕ} {keyed : List Bool} {i : ℕ} (m : Given keys keyed i) (slot key : ℕ) (slot_is : slot ≡ (entry_from table i).slot) (key-is : key ≡ (entry_from table i).key) where
    here : key_by (entry_from table) (suc i) slot ≡ some key
    unfolding key_by
    here = rw (eq-eqb (entry_from table i).slot slot (sym slot_is)) (ap some (sym key-is))

    other : (j : ℕ) → j ≢ slot → key_by (entry_from table) (suc i) j ≡ key_by (entry_from table) i j
    unfolding key_by
    other j q = rw (ne_eqb (entry_from table i).slot j (λ e. q (sym e ∙ sym slot_is)))

    pub given-more : (keys' : List ℕ) (keyed' : List Bool) → keys' ≡ cond (ltb slot n) (set keys slot key) keys → keyed' ≡ cond (ltb slot n) (set keyed slot true) keyed →
        Given keys' keyed' (i + 1)
    given-more keys' keyed' e f =
        rw (add-one i)
        (record {
          words =
              e ∙ given (word_from table i) (word_from table (suc i)) n slot key (ap (λ (o : Option ℕ). key_word (mark_from o)) here)
              (λ j q. ap (λ (o : Option ℕ). key_word (mark_from o)) (other j q)) keys₀ keys m.words;
          marks =
              f ∙ given (on_from table i) (on_from table (suc i)) n slot true (ap (λ (o : Option ℕ). has_key (mark_from o)) here)
              (λ j q. ap (λ (o : Option ℕ). has_key (mark_from o)) (other j q)) keyed₀ keyed m.marks;
        })
