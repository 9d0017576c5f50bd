-- A slot written behind those in use is what the step of the value says.
use mathlib.Core.Path.{◌≡◌, refl, sym, ap, ◌∙◌}
use mathlib.Core.Bool.{true, false}
use mathlib.Core.List.{List, [], ◌∷◌, ◌++◌}
use Rattle.std.specs.Prelude.{Option, Some, None}
use Prim.Native.Nat.{ℕ, zero, suc, ◌+◌, ◌<◌}
use native.Mathlib.Omega.{arith}
use lib.Dec.{leb}
use borrow.Author.Tests.{le-ltb}
use lib.ListN.{length, length-append}
use Rattle.lists.specs.Lists.{tab}
use Rattle.lists.specs.Keep.{bit, count}
use Rattle.lists.proofs.Laws.{length-tab}
use Rattle.lists.proofs.Keep.{count-append}
use Rattle.encode.specs.declared.Header.{Header}
use Rattle.encode.specs.Coded.{fault, no_spare}
use Rattle.index.specs.declared.Index.{Index}
use Rattle.index.specs.Arrays.{Arrays, unmarked}
use Rattle.index.specs.State.{Mark, Slot, is_live, live, header_of, capacity, slot_at, state_of, record_of, overlay, put_slot, new_slot, with_counts}
use Rattle.index.specs.Fit.{fit}
use Rattle.index.specs.Codec.{encoded}
use Rattle.index.specs.Step.{Item, first_of, when, refused, slot, Outcome, with_slots, guarded, appended}
use Rattle.index.specs.Call.{Result, laid_over}
use Rattle.index.specs.Answers.{result_of}
use Rattle.index.proofs.Encoded.{encoded-shaped}
use Rattle.index.proofs.Fits.{overlay-self, record-self, fit-sound}
use Rattle.index.proofs.Places.{overlay-more}
use Rattle.place.specs.Place.{recoded, after_add, refusal}
use Rattle.place.specs.declared.Adding.{Adding}
use Rattle.place.specs.Adding.{spot, mark_for, barred}
use Rattle.place.proofs.Calls.{zero-test, unless_refused, wrote, accepted}
use Rattle.index.proofs.Overlay.{unmarked-capacity}

-- how many of the value's slots are live
pub live-count : (x : Index) (a : Arrays) → fit x a ≡ true → count live (tab (slot_at (header_of x) a) x.n) ≡ x.live
unfolding record_of state_of
live-count x a e = ap (λ (y : Index). y.live) (record-self x a e)

-- a refusal of the step
pub step-refused : (x : Index) (a : Arrays) (e : fit x a ≡ true) (n : ℕ) (o : Outcome) → result_of x a (refused (suc n)) ≡ laid_over a (guarded (state_of x a) (suc n) o)
unfolding guarded
step-refused x a e n o = λ j. result_of (sym (record-self x a e) j) (sym (overlay-self x a e) j) (refused (suc n))

mark-live : (k : Option (ℕ × ℕ)) → is_live (mark_for k) ≡ true
mark-live None = refl
mark-live (Some k) = refl

-- An append is never barred: w writes no slot in use.
module _ (x : Index) (a : Arrays) (w : Adding) (k : Option (ℕ × ℕ)) (v : Item) (y : ℕ) where
  abbrev h : Header
  h = header_of x

  abbrev room : ℕ
  room = capacity h a

  abbrev mark : Mark
  mark = mark_for k

  abbrev new : Slot
  new = new_slot mark (encoded h no_spare v) y

  abbrev slots : List Slot
  slots = tab (slot_at h a) x.n

  abbrev done : Result
  done = wrote x a (spot x.n k) true v y

  unbarred : (w : Adding) → barred w a.years x.n x.n ≡ false
  unbarred Adding.Unkeyed = refl
  unbarred (Adding.Keyed j present) = rw (le-ltb x.n x.n (omega arith))
  unbarred (Adding.Multi j) = refl

  module _ (e : fit x a ≡ true) where
    many : length slots ≡ x.n
    many = length-tab (slot_at h a) x.n

    abbrev tests : ℕ → ℕ
    tests n = first_of (fault h v.vector ∷ when (leb room n) 8 ∷ [])

    abbrev grown : ℕ → Outcome
    grown n = record { state = with_slots (state_of x a) false (slots ++ (new ∷ [])); answer = slot n }

    refusal_is : refusal x a w x.n v ≡ tests x.n
    unfolding refusal first_of
    refusal_is = rw (e, unbarred w) (zero-test (fault h v.vector ∷ when (leb room x.n) 8 ∷ []) [])

    arrays-are : x.n < room → overlay (unmarked a) (slots ++ (new ∷ [])) ≡ put_slot h a x.n new
    unfolding state_of
    arrays-are l =
        overlay-more h (unmarked a) slots new (fit-sound x a e).shape (encoded-shaped h no_spare v) (rw (many, unmarked-capacity h a) l)
        ∙ (λ j. put_slot h (overlay-self x a e j) (many j) new)

    record_is : record_of (with_slots (state_of x a) false (slots ++ (new ∷ []))) ≡ after_add x true
    unfolding record_of state_of
    record_is =
        let n : length (slots ++ (new ∷ [])) ≡ x.n + 1 = omega (arith, length-append slots (new ∷ []), many) in
        let lives : count live (slots ++ (new ∷ [])) ≡ x.live + 1 = omega (arith, count-append live slots (new ∷ []), live-count x a e, ap bit (mark-live k)) in
        λ j. with_counts x (n j) (lives j) false

    outcome : (n : ℕ) → tests x.n ≡ n → unless_refused x a n done ≡ laid_over a (guarded (state_of x a) n (grown x.n))
    unfolding guarded recoded
    outcome zero q =
        let below = (accepted x a w x.n v (refusal_is ∙ q)).below in
        λ j. result_of (sym record_is j) (sym (arrays-are below) j) (slot x.n)
    outcome (suc n) q = step-refused x a e n (grown x.n)

    pub append-fits : unless_refused x a (refusal x a w x.n v) done ≡ laid_over a (appended room (state_of x a) mark v y)
    unfolding appended state_of
    append-fits =
        ap (λ (n : ℕ). unless_refused x a n done) refusal_is ∙ outcome (tests x.n) refl
        ∙ (λ j. laid_over a (guarded (state_of x a) (tests (sym many j)) (grown (sym many j))))
