-- The slots that a compaction keeps, by their numbers.
use mathlib.Core.Path.{◌≡◌, refl, sym, ap, ◌∙◌}
use mathlib.Core.Bool.{Bool, true, false, not, cond, ◌||◌}
use mathlib.Core.List.{List, [], ◌∷◌, ◌++◌, map, map-map}
use Prim.Native.Nat.{ℕ, zero, suc, ◌+◌, ◌≤◌, ◌<◌}
use native.Mathlib.Omega.{arith}
use native.Mathlib.Decide.{dec_lt}
use lib.ListN.{length, get_or, length-map, length-append, get_or-append}
use lib.Seq.{get_or_at}
use lib.Dec.{ltb, leb}
use borrow.Author.Tests.{ltb-true, le-leb, lt-leb}
use Rattle.lists.specs.Lists.{tab, over, joined, below}
use Rattle.lists.specs.Keep.{bit, keep, count, any}
use Rattle.lists.proofs.Laws.{length-tab, length_over, get_d_default}
use Rattle.lists.proofs.Keep.{keep_append, keep-map, length-keep, count-length, each-kept, map_same}
use Rattle.lists.proofs.Front.{get_d_front, map-tab, tab-map}
use Rattle.encode.specs.declared.Header.{Header}
use Rattle.codes.specs.Slots.{block_at}
use Rattle.index.specs.Arrays.{Arrays}
use Rattle.index.specs.State.{Slot, live, mark_of, slot_at, alive_of, has_key, key_word}
use Rattle.index.proofs.Marks.{mark-live}
use Rattle.marks.specs.Live.{live_at}
use Rattle.compact.specs.Gathered.{live_slots, gathered, gathered_blocks, Downward}
use Rattle.compact.proofs.Gathering.{few-live}

-- ---- their numbers rise, so none is below its place

module _ (alive : List ℕ) where
  abbrev marked : ℕ → Bool
  marked = live_at alive

  numbers-rise : (n j : ℕ) → j < length (keep marked (below n)) → (j ≤ get_or (keep marked (below n)) j 0) × (get_or (keep marked (below n)) j 0 < n)
  numbers-rise zero j l = absurd (omega arith)
  numbers-rise (suc n) j l = go (marked n) (keep_append marked (below n) (n ∷ [])) (numbers-rise n j)
    where
      ns : List ℕ
      ns = keep marked (below n)

      ms : List ℕ
      ms = keep marked (below (suc n))

      go : (b : Bool) → ms ≡ ns ++ cond b (n ∷ []) [] → (j < length ns → (j ≤ get_or ns j 0) × (get_or ns j 0 < n)) → (j ≤ get_or ms j 0) × (get_or ms j 0 < suc n)
      go b e ih =
          elim (dec_lt j (length ns)) [
            | yes k ↦ let v : get_or ms j 0 ≡ get_or ns j 0 = rw e (get_or-append ns (cond b (n ∷ []) []) 0 j k) in rw v (omega (arith, (ih k).0), omega (arith, (ih k).1))
            | no k ↦ last b e k
          ]
        where
          last : (b : Bool) → ms ≡ ns ++ cond b (n ∷ []) [] → (j < length ns → ⊥) → (j ≤ get_or ms j 0) × (get_or ms j 0 < suc n)
          last true e k =
              let at : length ns ≡ j = omega (arith, ap length e, length-append ns (n ∷ [])) in
              let v : get_or ms j 0 ≡ n = rw e (get_or_at ns n [] 0 j at) in
              rw v (omega (arith, length-keep marked (below n), count-length marked (below n), length-tab (λ (i : ℕ). i) n), omega arith)
          last false e k = absurd (k (omega (arith, ap length e, length-append ns [])))

module _ (alive : List ℕ) (n : ℕ) (old : List ℕ) (space : n ≤ length old) where
  abbrev numbers : List ℕ
  numbers = live_slots alive n

  pub few-kept : length numbers ≤ n
  few-kept = few-live alive old n

  -- written over places that are there, they are read
  number_at : (j d : ℕ) → j < length numbers → get_or (over numbers old) j 0 ≡ get_or numbers j d
  number_at j d l = get_d_front numbers old j 0 l ∙ get_d_default numbers j 0 d l

  pub numbers-down : (room : ℕ) → n ≤ room → Downward (over numbers old) (length numbers) room
  unfolding live_slots
  numbers-down room h =
      record {
        many = omega (arith, length_over numbers old (omega (arith, few-kept)), few-kept);
        down = λ j l. rw (number_at j 0 l) (numbers-rise alive n j l).0;
        below = λ j l. rw (number_at j 0 l) (omega (arith, (numbers-rise alive n j l).1));
      }

  listed-map : {B : Type 0} (g : ℕ → B) → tab (λ j. g (get_or (over numbers old) j 0)) (length numbers) ≡ map g numbers
  listed-map g = tab-map g (λ j. g (get_or (over numbers old) j 0)) numbers (λ j d l. ap g (number_at j d l))

  pub gathered-kept : {A : Type 0} (d : A) (xs : List A) → gathered (over numbers old) (length numbers) d xs ≡ over (map (λ i. get_or xs i d) numbers) xs
  unfolding gathered
  gathered-kept d xs = ap (λ ys. over ys xs) (listed-map (λ i. get_or xs i d))

  pub blocks-kept : (size : ℕ) (xs : List ℕ) → gathered_blocks (over numbers old) (length numbers) size xs ≡ over (joined (map (λ i. block_at size i xs) numbers)) xs
  unfolding gathered_blocks
  blocks-kept size xs = ap (λ ys. over (joined ys) xs) (listed-map (λ i. block_at size i xs))

-- ---- the slots themselves

mark-word : (l : ℕ) (on : Bool) (k p : ℕ) → key_word (mark_of l on k p) ≡ k
mark-word zero on k p = refl
mark-word (suc l) true k p = refl
mark-word (suc l) false k p = refl

mark-keyed : (l : ℕ) (on : Bool) (k p : ℕ) → ltb 0 l ≡ true → has_key (mark_of l on k p) ≡ on
mark-keyed zero on k p e = absurd (omega (arith, ltb-true 0 0 e))
mark-keyed (suc l) true k p e = refl
mark-keyed (suc l) false k p e = refl

mark-alive : (l : ℕ) (on : Bool) (k p : ℕ) → ltb 0 l ≡ true → alive_of (mark_of l on k p) ≡ 1
mark-alive zero on k p e = absurd (omega (arith, ltb-true 0 0 e))
mark-alive (suc l) true k p e = refl
mark-alive (suc l) false k p e = refl

module _ (h : Header) (a : Arrays) (n : ℕ) where
  abbrev nums : List ℕ
  nums = live_slots a.alive n

  abbrev pub kept_slots : List Slot
  kept_slots = keep live (tab (slot_at h a) n)

  pub kept-slots : kept_slots ≡ map (slot_at h a) nums
  unfolding live_slots slot_at
  kept-slots =
      ap (keep live) (sym (map-tab (slot_at h a) (λ i. i) n)) ∙ keep-map (slot_at h a) live (below n)
      ∙ (λ j. map (slot_at h a) (keep (λ i. mark-live (get_or a.alive i 0) (get_or a.keyed i false) (get_or a.keys i 0) (get_or a.held i 0) j) (below n)))

  pub kept-length : length kept_slots ≡ length nums
  kept-length = ap length kept-slots ∙ length-map nums (slot_at h a)

  -- a part of each slot
  pub kept_map : {B : Type 0} (g : Slot → B) → map g kept_slots ≡ map (λ i. g (slot_at h a i)) nums
  kept_map g = ap (map g) kept-slots ∙ map-map g (slot_at h a) nums

  kept-marks : {B : Type 0} (g : Slot → B) (f : ℕ → B) → ((i : ℕ) → live_at a.alive i ≡ true → g (slot_at h a i) ≡ f i) → map g kept_slots ≡ map f nums
  unfolding live_slots
  kept-marks g f e = kept_map g ∙ map_same (λ i. g (slot_at h a i)) f nums (each-kept (λ i. g (slot_at h a i) ≡ f i) (live_at a.alive) (below n) e)

  pub kept-words : map (λ s. key_word s.mark) kept_slots ≡ map (λ i. get_or a.keys i 0) nums
  unfolding slot_at
  kept-words = kept-marks (λ s. key_word s.mark) (λ i. get_or a.keys i 0) (λ i e. mark-word (get_or a.alive i 0) (get_or a.keyed i false) (get_or a.keys i 0) (get_or a.held i 0))

  pub kept-keyed : map (λ s. has_key s.mark) kept_slots ≡ map (λ i. get_or a.keyed i false) nums
  unfolding slot_at
  kept-keyed = kept-marks (λ s. has_key s.mark) (λ i. get_or a.keyed i false) (λ i e. mark-keyed (get_or a.alive i 0) (get_or a.keyed i false) (get_or a.keys i 0) (get_or a.held i 0) e)

  pub kept-alive : map (λ s. alive_of s.mark) kept_slots ≡ map (λ i. 1) nums
  unfolding slot_at
  kept-alive = kept-marks (λ s. alive_of s.mark) (λ i. 1) (λ i e. mark-alive (get_or a.alive i 0) (get_or a.keyed i false) (get_or a.keys i 0) (get_or a.held i 0) e)

leb-same : (a b : ℕ) → leb (suc a) (1 + b) ≡ leb a b
leb-same a b =
    elim (dec_lt b a) [
      | yes l ↦ lt-leb (suc a) (1 + b) (omega arith) ∙ sym (lt-leb a b l)
      | no l ↦ le-leb (suc a) (1 + b) (omega arith) ∙ sym (le-leb a b (omega arith))
    ]

-- none is dead where as many are kept as there were
pub none-dead : {X : Type 0} (p : X → Bool) (xs : List X) → not (any (λ x. not (p x)) xs) ≡ leb (length xs) (count p xs)
unfolding any
none-dead p [] = refl
none-dead p (x ∷ xs) = go (p x) (none-dead p xs)
  where
    go : (b : Bool) → not (any (λ x. not (p x)) xs) ≡ leb (length xs) (count p xs) → not (not b || any (λ x. not (p x)) xs) ≡ leb (suc (length xs)) (bit b + count p xs)
    go true ih = ih ∙ sym (leb-same (length xs) (count p xs))
    go false ih = sym (lt-leb (suc (length xs)) (0 + count p xs) (omega (arith, count-length p xs)))
