-- What reading into the arrays of a listing answers and leaves.
use mathlib.Core.Path.{◌≡◌, refl, sym, ap, ◌∙◌}
use mathlib.Core.Bool.{Bool, false, cond}
use mathlib.Core.List.{List, map}
use mathlib.Core.Option.{Option, none, some}
use Prim.Native.Nat.{ℕ, zero, suc, ◌<◌}
use native.Mathlib.Omega.{arith}
use lib.ListN.{length, get_or, replicate, length-replicate}
use Rattle.lists.specs.Lists.{tab, over}
use Rattle.lists.proofs.Laws.{length-tab, get_or-tab}
use Rattle.lists.proofs.Front.{get_d_front, map-tab}
use Rattle.std.specs.Prelude.{Result, Ok, Err}
use Rattle.refusal.specs.declared.Refusal.{Refusal}
use Rattle.refusal.specs.Refusal.{fault_of}
use Rattle.slot_keys.specs.Has.{key_at}
use Rattle.index.specs.declared.Index.{Index}
use Rattle.index.specs.Verdict.{Verdict, granted, turned_down, verdict}
use Rattle.index.specs.Arrays.{Arrays, lent, unmarked}
use Rattle.index.specs.State.{Mark, keyed, has_key, key_word, overlay, record_of}
use Rattle.index.specs.Make.{Begun, begun, begun_unless}
use Rattle.index.specs.Read.{count_in, mark_from, key_from, entries_in, slot_in, slots_in, read_refusal, read_into, state_in}
use Rattle.index.proofs.Overlay.{SameLengths}
use Rattle.marks.proofs.Words.{length-marks}
use Rattle.compact.proofs.Rising.{rising-map}
use Rattle.listed.specs.Listing.{room}
use Rattle.listed.proofs.Room.{as-large, refusal-same}

-- ---- keys

mark-key : (o : Option ℕ) → cond (has_key (mark_from o)) (some (key_word (mark_from o))) none ≡ o
mark-key none = refl
mark-key (some k) = refl

-- ---- the number of an answer

-- 0 for an index
abbrev number_in : Verdict Index → ℕ
number_in (granted x) = 0
number_in (turned_down n) = n

verdict-number : (r : Result Index Refusal) → fault_of r ≡ number_in (verdict r)
verdict-number (Ok x) = refl
verdict-number (Err r) = refl

-- ---- reading

-- the arrays of read_keys are as large as a listing's
pub as-lent : (words : List ℕ) (flags : List Bool) → length words ≡ 1024 → length flags ≡ 1024 →
    SameLengths (lent (replicate 32768 0) (replicate 1024 0) words flags (replicate 1024 0) (replicate 16 0) (replicate 32768 0) (replicate 1024 0) (replicate 1024 0)) room
as-lent words flags w f =
    let bytes = length-replicate {A = ℕ} 32768 0 in
    let slots = length-replicate {A = ℕ} 1024 0 in
    as-large _ bytes slots w f slots (omega (arith, length-marks (replicate {A = ℕ} 16 0), length-replicate {A = ℕ} 16 0)) bytes slots slots

module _ (file : List ℕ) (a : Arrays) where
  marks-read : {B : Type 0} (g : Mark → B) → ((k p q : ℕ) → g (keyed k p) ≡ g (keyed k q)) → (xs : List B) (i : ℕ) (d : B) → i < count_in file
      → get_or (over (map (λ s. g s.mark) (slots_in file)) xs) i d ≡ g (mark_from (key_from (entries_in file) i))
  unfolding slots_in slot_in
  marks-read g same xs i d l =
      let n : ℕ = count_in file in
      let all : map (λ s. g s.mark) (slots_in file) ≡ tab (λ j. g (mark_from (key_from (entries_in file) j))) n =
      rising-map (λ s. g s.mark) (λ k p q c. same k p q) (λ k. 0) (tab (slot_in file) n) ∙ map-tab (λ s. g s.mark) (slot_in file) n in
      rw all
      (get_d_front (tab (λ j. g (mark_from (key_from (entries_in file) j))) n) xs i d (rw (length-tab (λ j. g (mark_from (key_from (entries_in file) j))) n) l)
      ∙ get_or-tab (λ j. g (mark_from (key_from (entries_in file) j))) n i d l)

  keys-read : (i : ℕ) → i < count_in file →
      key_at (overlay (unmarked a) (slots_in file)).keys (overlay (unmarked a) (slots_in file)).keyed i ≡ key_from (entries_in file) i
  unfolding overlay key_at
  keys-read i l =
      rw (marks-read has_key (λ k p q. refl) a.keyed i false l, marks-read key_word (λ k p q. refl) a.keys i 0 l) (mark-key (key_from (entries_in file) i))

  -- ---- the answer

  answer-number : number_in (read_into a file).answer ≡ read_refusal file a
  unfolding read_into
  answer-number = go (read_refusal file a)
    where
      go : (n : ℕ) → number_in (begun_unless n (record_of (state_in file)) a (overlay (unmarked a) (slots_in file))).answer ≡ n
      go zero = refl
      go (suc n) = refl

  accepted-arrays : read_refusal file a ≡ 0 → (read_into a file).arrays ≡ overlay (unmarked a) (slots_in file)
  unfolding read_into
  accepted-arrays e = ap (λ (n : ℕ). (begun_unless n (record_of (state_in file)) a (overlay (unmarked a) (slots_in file))).arrays) e

  module _ (r : Result Index Refusal) (b : Arrays) (e : begun (verdict r) b ≡ read_into a file) (s : SameLengths a room) where
    fault_is : fault_of r ≡ read_refusal file a
    fault_is = verdict-number r ∙ ap (λ (x : Begun). number_in x.answer) e ∙ answer-number

    pub fault-told : fault_of r ≡ read_refusal file room
    fault-told = fault_is ∙ refusal-same file a s

    -- words and flags that were lent as keys and keyed
    pub keys_are : (words : List ℕ) (flags : List Bool) → words ≡ b.keys → flags ≡ b.keyed → fault_of r ≡ 0 → (i : ℕ) → i < count_in file → key_at words flags i ≡ key_from (entries_in file) i
    keys_are words flags ew ef z i l =
        rw (ew, ef) (ap (λ (c : Arrays). key_at c.keys c.keyed i) (ap (λ (x : Begun). x.arrays) e ∙ accepted-arrays (sym fault_is ∙ z)) ∙ keys-read i l)
