-- The places that are the first of their keys, written one after the other: that is the keyed list.
use mathlib.Core.Path.{◌≡◌, refl, sym, ap, ◌∙◌}
use mathlib.Core.Bool.{Bool, true, false, cond, and-false}
use mathlib.Core.Logic.{◌⊎◌, inl, inr}
use mathlib.Core.List.{List, [], ◌∷◌, ◌++◌, map, map-append, append-nil}
use Prim.Native.Nat.{ℕ, zero, suc, ◌+◌, ◌≤◌, ◌<◌, min}
use native.Mathlib.Nat.{add-zero}
use native.Mathlib.Numerals.{add-one}
use native.Mathlib.Omega.{arith}
use lib.ListN.{length, take, get_or, set, length-append, length-map}
use lib.Seq.{length-take-le, get_or-take}
use lib.Dec.{leb}
use lib.Ieee.{Float, nan}
use borrow.Author.Tests.{le-leb, lt-leb}
use Rattle.lists.specs.Lists.{tab, over, below}
use Rattle.lists.specs.Keep.{bit, keep}
use Rattle.lists.proofs.Laws.{length-tab, get_or-tab, length_over}
use Rattle.lists.proofs.Keep.{keep_append, length-keep, count-length}
use Rattle.lists.proofs.Front.{get_d_front, over-append, splice-one}
use Rattle.index.specs.Step.{by_key}
use Rattle.previous.specs.Previous.{place_word, previous, linked}
use Rattle.previous.proofs.Previous.{linked-all, previous-same}
use Rattle.distinct.specs.Distinct.{keyed_shown}
use Rattle.distinct.specs.Places.{first_by, firsts_list, keyed_to, Listed, PutsHit}
use Rattle.distinct.proofs.KeyedList.{added, keyed-next, keyed-all}

-- ---- the places that are the first of their keys

module _ (keys : List ℕ) (keyed : List Bool) (slots : List ℕ) (scores : List Float) (before : List ℕ) where
  abbrev first : (place : ℕ) → Bool
  first = first_by keyed slots before

  abbrev listed : (place : ℕ) → ℕ × Float
  listed p = (place_word keys slots p, get_or scores p nan)

  pub firsts-next : (i : ℕ) →
      firsts_list keys keyed slots scores before (suc i) ≡ firsts_list keys keyed slots scores before i ++ added (first i) (place_word keys slots i) (get_or scores i nan)
  unfolding firsts_list
  firsts-next i =
      ap (map listed) (keep_append first (below i) (i ∷ [])) ∙ map-append listed (keep first (below i)) (keep first (i ∷ []))
      ∙ ap (λ (l : List (ℕ × Float)). firsts_list keys keyed slots scores before i ++ l) (go (first i))
    where
      go : (b : Bool) → map listed (cond b (i ∷ []) []) ≡ added b (place_word keys slots i) (get_or scores i nan)
      go true = refl
      go false = refl

  pub firsts-few : (i : ℕ) → length (firsts_list keys keyed slots scores before i) ≤ i
  unfolding firsts_list
  firsts-few i =
      omega (
        arith,
        length-map {B = ℕ × Float} (keep first (below i)) listed,
        length-keep first (below i),
        count-length first (below i),
        length-tab (λ (j : ℕ). j) i,
      )

  -- by the entries of the first n places
  firsts-keyed : (n : ℕ) → ((p : ℕ) → p < n → get_or before p 0 ≡ previous keys keyed slots p) → firsts_list keys keyed slots scores before n ≡ keyed_to keys keyed slots scores n
  unfolding by_key firsts_list
  firsts-keyed zero h = refl
  firsts-keyed (suc n) h = firsts-next n ∙ rw (firsts-keyed n (λ p l. h p (omega arith)), h n (omega arith)) (sym (keyed-next keys keyed slots scores n))

pub firsts-linked : (keys : List ℕ) (keyed : List Bool) (slots : List ℕ) (scores : List Float) (n : ℕ) (before₀ before : List ℕ) → n ≤ length slots → n ≤ 65536 → n ≤ length before₀ →
    before ≡ linked keys keyed (take n slots) before₀ → firsts_list keys keyed slots scores before n ≡ keyed_to keys keyed slots scores n
firsts-linked keys keyed slots scores n before₀ before h few room e =
    let l : length (take n slots) ≡ n = length-take-le n slots h in
    firsts-keyed keys keyed slots scores before n
    (λ p k.
    rw (e, linked-all keys keyed (take n slots) before₀ (omega arith) (omega arith), l)
    (get_d_front (tab (previous keys keyed (take n slots)) n) before₀ p 0 (rw (length-tab (previous keys keyed (take n slots)) n) k)
    ∙ get_or-tab (previous keys keyed (take n slots)) n p 0 k
    ∙ previous-same keys keyed (take n slots) slots p (λ i m. get_or-take n slots i 0 (omega arith))))

-- ---- one more entry in the results

added-length : (b : Bool) (k : ℕ) (x : Float) → length (added b k x) ≡ bit b
added-length true k x = refl
added-length false k x = refl

-- one more over the first places
over-snoc : {A : Type 0} (ys : List A) (y : A) (xs : List A) → length ys < length xs → set (over ys xs) (length ys) y ≡ over (ys ++ (y ∷ [])) xs
over-snoc ys y xs h = sym (over-append ys (y ∷ []) xs ∙ splice-one (length ys) y (over ys xs) (omega (arith, length_over ys xs (omega arith))))

-- a field of the listed entries over the first places, and that of one entry more where it is marked
over-added : {A : Type 0} (f : ℕ × Float → A) (list : List (ℕ × Float)) (mark : Bool) (name : ℕ) (score : Float) (old places : List A) →
    length list < length old → places ≡ over (map f list) old →
    cond mark (set places (length list) (f (name, score))) places ≡ over (map f (list ++ added mark name score)) old
over-added f list true name score old places room e =
    let m : length (map f list) ≡ length list = length-map list f in
    rw (map-append f list ((name, score) ∷ []), ← m, e) (over-snoc (map f list) (f (name, score)) old (omega arith))
over-added f list false name score old places room e = rw (append-nil list) e

module _ (mark : Bool) (name : ℕ) (score : Float) (many : ℕ) (names : List ℕ) (scores : List Float) where
  pub put-marked : mark ≡ true → (word : ℕ) → word ≡ name → PutsHit mark name score many names scores (many + 1) (set names many word) (set scores many score)
  put-marked e word q = record { many-is = rw e; names-are = rw (e, q); scores-are = rw e }

  pub put-none : mark ≡ false → PutsHit mark name score many names scores many names scores
  put-none e = record { many-is = rw e (sym (add-zero many)); names-are = rw e; scores-are = rw e }

-- the first i of n places are written
pub record Writing (keys : List ℕ) (keyed : List Bool) (slots : List ℕ) (hits : List Float) (before : List ℕ) (n : ℕ) (names₀ : List ℕ) (scores₀ : List Float)
    (many : ℕ) (names : List ℕ) (scores : List Float) (i : ℕ) : Type 0 where
  pub few : i ≤ n
  pub listed : Listed (firsts_list keys keyed slots hits before i) names₀ scores₀ many names scores
  pub names_same : length names ≡ length names₀
  pub scores-same : length scores ≡ length scores₀

module _ (keys : List ℕ) (keyed : List Bool) (slots : List ℕ) (hits : List Float) (before : List ℕ) (n : ℕ) (names₀ : List ℕ) (scores₀ : List Float) where
  pub writing-none : Writing keys keyed slots hits before n names₀ scores₀ 0 names₀ scores₀ 0
  unfolding over firsts_list
  writing-none = record { few = omega arith; listed = record { many-is = refl; names-are = refl; scores-are = refl }; names_same = refl; scores-same = refl }

  module _ {many : ℕ} {names : List ℕ} {scores : List Float} {i : ℕ} (m : Writing keys keyed slots hits before n names₀ scores₀ many names scores i) where
    pub writing-few : many ≤ i
    writing-few = omega (arith, m.listed.many-is, firsts-few keys keyed slots hits before i)

    module _ (l : i < n) (h : n ≤ length names₀) (k : n ≤ length scores₀) where
      abbrev list : List (ℕ × Float)
      list = firsts_list keys keyed slots hits before i

      abbrev mark : Bool
      mark = first_by keyed slots before i

      abbrev name : ℕ
      name = place_word keys slots i

      abbrev score : Float
      score = get_or hits i nan

      listed_more : (r : ℕ) (names' : List ℕ) (scores' : List Float) → PutsHit mark name score many names scores r names' scores' → Listed (list ++ added mark name score) names₀ scores₀ r names' scores'
      listed_more r names' scores' p =
          let room = firsts-few keys keyed slots hits before i in
          let e = m.listed.many-is in
          record {
            many-is = omega (arith, p.many-is, e, length-append list (added mark name score), added-length mark name score);
            names-are = p.names-are ∙ rw e (over-added (λ e. e.0) list mark name score names₀ names (omega (arith, room)) m.listed.names-are);
            scores-are = p.scores-are ∙ rw e (over-added (λ e. e.1) list mark name score scores₀ scores (omega (arith, room)) m.listed.scores-are);
          }

      pub writing_more : (r : ℕ) (names' : List ℕ) (scores' : List Float) → PutsHit mark name score many names scores r names' scores' →
          length names' ≡ length names → length scores' ≡ length scores → Writing keys keyed slots hits before n names₀ scores₀ r names' scores' (i + 1)
      writing_more r names' scores' p f g =
          record {
            few = omega arith;
            listed = rw (add-one i, firsts-next keys keyed slots hits before i) (listed_more r names' scores' p);
            names_same = f ∙ m.names_same;
            scores-same = g ∙ m.scores-same;
          }

    pub writing-all : n ≤ i → Listed (firsts_list keys keyed slots hits before n) names₀ scores₀ many names scores
    writing-all l = let e : i ≡ n = omega (arith, m.few) in rw e at m.listed

-- ---- the whole list

module _ (keys : List ℕ) (keyed : List Bool) (slots : List ℕ) (hits : List Float) (names₀ : List ℕ) (scores₀ : List Float) where
  abbrev shown : List (ℕ × Float)
  shown = keyed_shown keys keyed slots hits (min (length names₀) (length scores₀))

  -- as the contract says it
  abbrev Shown : (many : ℕ) → (names : List ℕ) → (scores : List Float) → Type 0
  Shown many names scores = (many ≡ length shown) × ((names ≡ over (map (λ e. e.0) shown) names₀) × (scores ≡ over (map (λ e. e.1) shown) scores₀))

  shown-nothing : shown ≡ [] → Shown 0 names₀ scores₀
  unfolding over
  shown-nothing e = rw e (refl, (refl, refl))

  module _ (n : ℕ) (all : n ≡ min (length slots) (length hits)) where
    -- too many are listed, or there are too few places
    pub shown-none : (65536 < n) ⊎ ((n ≤ 65536) × (min (length names₀) (length scores₀) < n)) → Shown 0 names₀ scores₀
    unfolding keyed_shown
    shown-none (inl l) = shown-nothing (rw (← all, lt-leb n 65536 l))
    shown-none (inr l) = shown-nothing (rw (← all, lt-leb n (min (length names₀) (length scores₀)) l.1, and-false (leb n 65536)))

    shown-keyed : n ≤ 65536 → n ≤ min (length names₀) (length scores₀) → shown ≡ keyed_to keys keyed slots hits n
    unfolding keyed_shown
    shown-keyed few l = rw (← all, le-leb n 65536 few, le-leb n (min (length names₀) (length scores₀)) l) (rw all (keyed-all keys keyed slots hits))

    pub shown-all : n ≤ 65536 → n ≤ min (length names₀) (length scores₀) → (many : ℕ) (names : List ℕ) (scores : List Float) →
        Listed (keyed_to keys keyed slots hits n) names₀ scores₀ many names scores → Shown many names scores
    shown-all few l many names scores t = rw (shown-keyed few l) (t.many-is, (t.names-are, t.scores-are))

-- ---- a list that equals another

pub listed-as : {list other : List (ℕ × Float)} {names₀ names : List ℕ} {scores₀ scores : List Float} {many : ℕ} → list ≡ other →
    Listed list names₀ scores₀ many names scores → Listed other names₀ scores₀ many names scores
listed-as e t = rw e at t
