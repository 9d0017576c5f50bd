-- Two houses that read the same bytes.
use mathlib.Core.Path.{◌≡◌, refl, sym, ap, ap₂, ◌∙◌}
use mathlib.Core.Bool.{Bool, true, false}
use mathlib.Core.List.{List, [], ◌∷◌, ◌++◌, map, head-eq_of_cons-eq, tail-eq_of_cons-eq}
use mathlib.Core.Option.{Option, none, some}
use Prim.Native.Nat.{ℕ, zero, suc, ◌≤◌}
use native.Mathlib.Omega.{arith}
use lib.ListN.{length}
use lib.Dec.{leb}
use borrow.Author.Tests.{le-ltb}
use Rattle.lists.specs.Keep.{bit}
use Rattle.encode.specs.Coded.{fault, no_spare}
use Rattle.index.specs.declared.Index.{Index}
use Rattle.index.specs.Verdict.{Verdict}
use Rattle.index.specs.Arrays.{Arrays, unmarked}
use Rattle.index.specs.State.{Mark, unkeyed, keyed, State, header_of, capacity, state_of, new_slot, record_of, overlay}
use Rattle.index.specs.Codec.{encoded}
use Rattle.index.specs.Fit.{fit}
use Rattle.index.specs.Step.{live_from, held_by, Op, set_bits, add, add_keyed, add_multi, relabel, remove, remove_at, key_of, contains, slot_of, enable, score, search, search_keyed, search_cascade, compact, file_length, write, Item, Answer, slot, first_of, when, Outcome, with_slots, guarded, appended, slot_holding, step}
use Rattle.index.specs.Call.{Result, call}
use Rattle.index.specs.Make.{Begun, begun_unless}
use Rattle.index.specs.Read.{count_in, header_in, state_in, read_refusal, read_into, slots_in}
use Rattle.index.proofs.Kept.{fit-kept, call-state}
use Rattle.index.proofs.Calls.{call_fits}
use Rattle.index.proofs.Read.{read-value}
use Rattle.histories.specs.Histories.{accepted, as_read, begin, told_in}
use Rattle.histories.specs.Houses.{House, opened, SameReading, SameInBothHouses, answers_to, SameCallsInBothHouses}
use Rattle.histories.proofs.Runs.{Good}
use Rattle.histories.proofs.Starts.{start-good, told-as-filed}
use Rattle.histories.proofs.Claims.{told-alike}

-- ---- one answer to the file: only 20 looks at the arrays

same-refusal : (file : List ℕ) (a b : Arrays) → count_in file ≤ capacity (header_in file) a → count_in file ≤ capacity (header_in file) b → read_refusal file a ≡ read_refusal file b
unfolding read_refusal
same-refusal file a b l m = rw (le-ltb (capacity (header_in file) a) (count_in file) l, le-ltb (capacity (header_in file) b) (count_in file) m)

-- what reading answers, by its refusal
abbrev answer_by : (file : List ℕ) → Arrays → (refusal : ℕ) → Verdict Index
answer_by file a n = (begun_unless n (record_of (state_in file)) a (overlay (unmarked a) (slots_in file))).answer

pub same-reading : SameReading
unfolding read_into
same-reading file a b l m = go (read_refusal file a) (read_refusal file b) (same-refusal file a b l m)
  where
    go : (i j : ℕ) → i ≡ j → answer_by file a i ≡ answer_by file b j
    go i j e = ap (answer_by file a) e ∙ at j
      where
        at : (n : ℕ) → answer_by file a n ≡ answer_by file b n
        at zero = refl
        at (suc n) = refl

-- ---- histories

module _ {file : List ℕ} (p : House file) where
  pub house-good : Good (opened p)
  house-good = start-good p.index p.arrays (as_read file p.lent p.read)

  pub house-told : (opened p).told ≡ told_in file
  house-told = told-as-filed file p.lent p.index p.arrays p.read

  pub house-fits : fit p.index p.arrays ≡ true
  unfolding begin
  house-fits = house-good.fits

  pub house-value : state_of p.index p.arrays ≡ state_in file
  house-value =
      ap (state_of p.index) (sym (ap (λ (r : Begun). r.arrays) p.read)) ∙ read-value p.lent file p.index (ap (λ (r : Begun). r.answer) p.read)

pub same-in-both-houses : SameInBothHouses
same-in-both-houses file p q h₁ h₂ l₁ l₂ s =
    told-alike (opened p) (opened q) (house-good p) (house-good q) (house-told p ∙ sym (house-told q)) h₁ h₂ l₁ l₂ s

-- ---- any calls

-- room shows in acceptance alone
module _ (s : State) (o : Outcome) (yes : accepted o.answer ≡ true) where
  abbrev tested : ℕ → Bool → Outcome
  tested f b = guarded s (first_of (f ∷ when b 8 ∷ [])) o

  room-tested : (f : ℕ) (b c : Bool) → accepted (tested f b).answer ≡ accepted (tested f c).answer → tested f b ≡ tested f c
  unfolding guarded first_of
  room-tested (suc f) b c e = refl
  room-tested zero true true e = refl
  room-tested zero false false e = refl
  room-tested zero true false e = absurd (omega (arith, ap bit (e ∙ yes)))
  room-tested zero false true e = absurd (omega (arith, ap bit (sym yes ∙ e)))

-- of a value s, with room for r slots or for q
module _ (r q : ℕ) (s : State) where
  room-append : (m : Mark) (v : Item) (y : ℕ) → accepted (appended r s m v y).answer ≡ accepted (appended q s m v y).answer → appended r s m v y ≡ appended q s m v y
  unfolding appended
  room-append m v y e =
      let n : ℕ = length s.slots in
      room-tested s (record { state = with_slots s false (s.slots ++ (new_slot m (encoded s.header no_spare v) y ∷ [])); answer = slot n }) refl
      (fault s.header v.vector) (leb r n) (leb q n) e

  room-keyed : (j : ℕ) (v : Item) (y present : ℕ) (o : Option ℕ) → slot_holding j 0 (live_from 0 s.slots) ≡ o →
      accepted (step r s (add_keyed j v y present)).answer ≡ accepted (step q s (add_keyed j v y present)).answer →
      step r s (add_keyed j v y present) ≡ step q s (add_keyed j v y present)
  unfolding step
  room-keyed j v y present none h e = rw (h, step) (room-append (keyed j 0) v y (rw (h, step) at e))
  room-keyed j v y present (some i) h e = rw (h, step)

  room-step : (op : Op) → accepted (step r s op).answer ≡ accepted (step q s op).answer → step r s op ≡ step q s op
  unfolding step
  room-step (set_bits w) e = refl
  room-step (add v y) e = room-append (unkeyed 0) v y e
  room-step (add_keyed j v y present) e = room-keyed j v y present (slot_holding j 0 (live_from 0 s.slots)) refl e
  room-step (add_multi j v y) e = room-append (keyed j (held_by j (live_from 0 s.slots))) v y e
  room-step (relabel j k) e = refl
  room-step (remove j present) e = refl
  room-step (remove_at j i present) e = refl
  room-step (key_of i) e = refl
  room-step (contains j) e = refl
  room-step (slot_of j i) e = refl
  room-step enable e = refl
  room-step (score i v) e = refl
  room-step (search v k p) e = refl
  room-step (search_keyed v k p) e = refl
  room-step (search_cascade v k c p) e = refl
  room-step compact e = refl
  room-step file_length e = refl
  room-step (write p) e = refl

-- two records with arrays that fit and stand for the same value
pub same-calls : (x y : Index) (a b : Arrays) → fit x a ≡ true → fit y b ≡ true → state_of x a ≡ state_of y b → (ops : List Op) →
    map accepted (answers_to x a ops) ≡ map accepted (answers_to y b ops) → answers_to x a ops ≡ answers_to y b ops
same-calls x y a b f g e [] k = refl
same-calls x y a b f g e (op ∷ ops) k =
    let c : Result = call x a op in
    let d : Result = call y b op in
    let r : ℕ = capacity (header_of x) a in
    let q : ℕ = capacity (header_of y) b in
    let s : State = state_of x a in
    let t : State = state_of y b in
    let m : c.answer ≡ (step r s op).answer = ap (λ (o : Result). o.answer) (call_fits x a op f) in
    let n : d.answer ≡ (step q t op).answer = ap (λ (o : Result). o.answer) (call_fits y b op g) in
    let ok : accepted (step r s op).answer ≡ accepted (step q s op).answer =
    ap accepted (sym m) ∙ head-eq_of_cons-eq k ∙ ap accepted n ∙ ap (λ (u : State). accepted (step q u op).answer) (sym e) in
    let same : step r s op ≡ step q t op = room-step r q s op ok ∙ ap (λ (u : State). step q u op) e in
    ap₂ (λ (u : Answer) (us : List Answer). u ∷ us) (m ∙ ap (λ (o : Outcome). o.answer) same ∙ sym n)
    (same-calls c.index d.index c.arrays d.arrays (fit-kept x a op f) (fit-kept y b op g)
    (call-state x a op f ∙ ap (λ (o : Outcome). o.state) same ∙ sym (call-state y b op g)) ops (tail-eq_of_cons-eq k))

pub same-calls-in-both-houses : SameCallsInBothHouses
same-calls-in-both-houses file p q ops k =
    same-calls p.index q.index p.arrays q.arrays (house-fits p) (house-fits q) (house-value p ∙ sym (house-value q)) ops k
