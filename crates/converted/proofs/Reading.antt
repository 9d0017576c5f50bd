-- Reading a converted file, beside the old reading.
use mathlib.Core.Path.{◌≡◌, refl, sym, ap, ◌∙◌}
use mathlib.Core.Bool.{Bool, true, false}
use mathlib.Core.List.{List, [], ◌∷◌, map}
use Prim.Native.Nat.{ℕ, zero, suc}
use lib.ListN.{length}
use lib.Dec.{ltb}
use borrow.Author.Tests.{le-ltb}
use Rattle.lists.specs.Keep.{Each}
use Rattle.lists.proofs.Laws.{length-tab}
use Rattle.lists.proofs.Front.{map-tab, each-tab}
use Rattle.index.specs.Arrays.{Arrays, unmarked}
use Rattle.index.specs.State.{Mark, dead, unkeyed, keyed, Slot, with_mark, capacity, record_of, overlay}
use Rattle.index.specs.File.{file_of}
use Rattle.index.specs.Step.{first_of, when, one_more, rising}
use Rattle.index.specs.Make.{begun_unless}
use Rattle.index.specs.Read.{count_in, slots_in, state_in, read_refusal, read_into}
use Rattle.round_trip.specs.Back.{read_back}
use Rattle.round_trip.proofs.Back.{slots-back, value-back, refusal-back}
use Rattle.conversion.specs.Old.{old_header, old_head_fault, old_body_fault, old_refusal, old_stage, old_slots, old_state, old_read_into}
use Rattle.conversion.specs.Scales.{rounded}
use Rattle.conversion.specs.Converted.{conversion_refusal, converted}
use Rattle.converted.specs.Reading.{Convertible, old_entry, old_entries, ReadsRounded, RefusesAlike}
use Rattle.converted.proofs.Written.{passed-head, passed-body, writable, written-alike}

-- ---- refusals

pub refuses-alike : RefusesAlike
unfolding old_refusal conversion_refusal first_of
refuses-alike file a room = rw (le-ltb (capacity (old_header file) a) (count_in file) room) (go (old_head_fault file))
  where
    go : (h : ℕ) → first_of (h ∷ 0 ∷ old_body_fault file ∷ []) ≡ first_of (h ∷ old_body_fault file ∷ [])
    go zero = refl
    go (suc h) = refl

-- ---- slots without keys

unkeyed-rise : (seen : ℕ → ℕ) (ss : List Slot) → Each (λ s. s.mark ≡ unkeyed 0) ss → rising seen ss ≡ ss
unfolding rising
unkeyed-rise seen [] h = refl
unkeyed-rise seen (s ∷ ss) h = go s.mark h.0 (unkeyed-rise seen ss h.1)
  where
    go : (m : Mark) → m ≡ unkeyed 0 → rising seen ss ≡ ss → elim m [ dead u ↦ s ∷ rising seen ss | unkeyed u ↦ s ∷ rising seen ss | keyed k p ↦ with_mark s (keyed k (seen k)) ∷ rising (one_more k seen) ss ] ≡ s ∷ ss
    go m e ih = rw e (ap (λ (rs : List Slot). s ∷ rs) ih)

module _ (file : List ℕ) (t : Convertible file) where
  slots-are : rising (λ k. 0) (map read_back (old_entries file)) ≡ old_slots rounded file
  unfolding old_stage
  slots-are =
      ap (rising (λ k. 0)) (map-tab read_back (old_entry file) (count_in file))
      ∙ unkeyed-rise (λ k. 0) (old_slots rounded file) (each-tab (λ s. s.mark ≡ unkeyed 0) (λ i. read_back (old_entry file i)) (count_in file) (λ i l. refl))

  many : length (old_entries file) ≡ count_in file
  many = length-tab _ (count_in file)

  -- the arrays' room alone decides
  old-alone : (a : Arrays) → old_refusal file a ≡ when (ltb (capacity (old_header file) a) (count_in file)) 20
  unfolding old_refusal first_of
  old-alone a = rw (passed-head file t, passed-body file t) (go (ltb (capacity (old_header file) a) (count_in file)))
    where
      go : (b : Bool) → first_of (0 ∷ when b 20 ∷ 0 ∷ []) ≡ when b 20
      go true = refl
      go false = refl

  refusal-is : (a : Arrays) → read_refusal (file_of (old_header file) (old_entries file)) a ≡ old_refusal file a
  refusal-is a =
      refusal-back (old_header file) (old_entries file) (writable file t) a
      ∙ ap (λ (n : ℕ). when (ltb (capacity (old_header file) a) n) 20) many ∙ sym (old-alone a)

  state-is : state_in (file_of (old_header file) (old_entries file)) ≡ old_state rounded file
  unfolding old_state
  state-is =
      value-back (old_header file) (old_entries file) (writable file t)
      ∙ ap (λ (ss : List Slot). record { header = old_header file; cascade = false; slots = ss }) slots-are

  slots-same : slots_in (file_of (old_header file) (old_entries file)) ≡ old_slots rounded file
  slots-same = slots-back (old_header file) (old_entries file) (writable file t) ∙ slots-are

  reads : (a : Arrays) → read_into a (converted file) ≡ old_read_into rounded file a
  unfolding read_into
  reads a =
      ap (read_into a) (written-alike file t)
      ∙ (λ i. begun_unless (refusal-is a i) (record_of (state-is i)) a (overlay (unmarked a) (slots-same i)))

pub reads-rounded : ReadsRounded
reads-rounded = reads
