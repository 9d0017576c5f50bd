-- A run goes on as the machine does: one call, and a whole history.
use mathlib.Core.Path.{◌≡◌, refl, sym, ap, ◌∙◌, subst}
use mathlib.Core.Bool.{Bool, true, false, not, cond}
use mathlib.Core.List.{List, [], ◌∷◌, map}
use mathlib.Core.Option.{Option, some}
use Prim.Native.Nat.{ℕ}
use lib.ListN.{length}
use lib.Dec.{T, leb}
use Rattle.lists.specs.Keep.{Each}
use Rattle.index.specs.State.{State, header_of, capacity, state_of}
use Rattle.index.specs.Fit.{fit}
use Rattle.index.specs.Step.{Answer, Op, Outcome, step}
use Rattle.index.specs.Call.{Result}
use Rattle.index.specs.History.{HistoryOp, add, add_keyed, add_multi, relabel, remove, compact, score, search, search_keyed, key_of, contains, slot_of, file_length, write, op_at}
use Rattle.index.proofs.Kept.{fit-kept, call-state}
use Rattle.index.proofs.Calls.{call_fits}
use Rattle.histories.specs.Histories.{Told, says, is_compact, kept_arrivals, number_now, arrival_at, ids, accepted, Run, called, advance, Moment, moments, after, accepts, answer, struck, others, History, names_live, Legal, slots_of}
use Rattle.histories.proofs.Reading.{read_accepted, read-accepted}
use Rattle.histories.proofs.Tracks.{Tracks}
use Rattle.histories.proofs.Machine.{answer_of, next}
use Rattle.histories.proofs.Steps.{Taken, step-taken, cond_same}

-- what holds all along a run
pub record Good (r : Run) : Type 0 where
  pub fits : fit r.index r.arrays ≡ true
  pub header : header_of r.index ≡ r.told.header
  pub tracks : Tracks r.arrivals r.told.next (slots_of r) r.told.living

-- the slots in use fill the capacity
abbrev pub full : Run → Bool
full r = leb (capacity (header_of r.index) r.arrays) (length (slots_of r))

-- ---- one call

module _ (r : Run) (g : Good r) (op : HistoryOp) where
  abbrev asked : Op
  asked = op_at (number_now r.arrivals) op

  abbrev room : ℕ
  room = capacity (header_of r.index) r.arrays

  abbrev outcome : Outcome
  outcome = step room (state_of r.index r.arrays) asked

  abbrev TakenAs : State → Type 0
  TakenAs s = Taken r.arrivals r.told room r.index.cascade (slots_of r) g.tracks op (step room s asked)

  outcome-taken : TakenAs (state_of r.index r.arrays)
  unfolding state_of
  outcome-taken =
      subst TakenAs (λ i. record { header = sym g.header i; cascade = r.index.cascade; slots = slots_of r })
      (step-taken r.arrivals r.told room r.index.cascade (slots_of r) g.tracks op)

  called-answer : (called r op).answer ≡ outcome.answer
  unfolding called
  called-answer = ap (λ (o : Result). o.answer) (call_fits r.index r.arrays asked g.fits)

  called-state : state_of (called r op).index (called r op).arrays ≡ outcome.state
  unfolding called
  called-state = call-state r.index r.arrays asked g.fits

  called-header : header_of (called r op).index ≡ outcome.state.header
  unfolding state_of
  called-header = ap (λ (s : State). s.header) called-state

  called-fits : fit (called r op).index (called r op).arrays ≡ true
  unfolding called
  called-fits = fit-kept r.index r.arrays asked g.fits

  abbrev told_next : Answer → Told
  told_next b = cond (accepted b) (says op r.told) r.told

  pub advance-good : Good (advance r op)
  unfolding advance
  advance-good =
      record {
        fits = called-fits;
        header = rw called-answer (called-header ∙ outcome-taken.header ∙ sym outcome-taken.told);
        tracks =
            rw called-answer
            (subst (λ (s : State). Tracks (cond (accepted outcome.answer) (kept_arrivals op r.told r.arrivals) r.arrivals)
            (told_next outcome.answer).next s.slots (told_next outcome.answer).living)
            (sym called-state) outcome-taken.tracks);
      }

  -- the answer by arrival is the machine's
  pub answer-machine : names_live r.told.living op ≡ true → answer (record { before = r; op = op }) ≡ some (answer_of (full r) r.told op)
  unfolding answer advance
  answer-machine n = rw called-answer (outcome-taken.answer n)

  pub accepts-machine : names_live r.told.living op ≡ true → accepts (record { before = r; op = op }) ≡ accepted (answer_of (full r) r.told op)
  unfolding answer
  accepts-machine n =
      let b : Answer = (called r op).answer in
      sym (ap (λ (o : Option Answer). read_accepted o (accepted b)) (sym (answer-machine n)) ∙
      read-accepted (arrival_at (advance r op).arrivals (ids (advance r op).told.living)) b)

  pub told-machine : names_live r.told.living op ≡ true → (advance r op).told ≡ next (full r) r.told op
  unfolding advance
  told-machine n = ap (λ (b : Bool). cond b (says op r.told) r.told) (accepts-machine n)

-- a compaction tells nothing
compact-says : (op : HistoryOp) (t : Told) → is_compact op ≡ true → says op t ≡ t
unfolding says
compact-says (add v y) t e = absurd (subst T (sym e) tt)
compact-says (add_keyed j v y present) t e = absurd (subst T (sym e) tt)
compact-says (add_multi j v y) t e = absurd (subst T (sym e) tt)
compact-says (relabel j k) t e = absurd (subst T (sym e) tt)
compact-says (remove j present) t e = absurd (subst T (sym e) tt)
compact-says compact t e = refl
compact-says (score a q) t e = refl
compact-says (search q k places) t e = refl
compact-says (search_keyed q k places) t e = refl
compact-says (key_of a) t e = refl
compact-says (contains j) t e = refl
compact-says (slot_of j i) t e = refl
compact-says file_length t e = refl
compact-says (write places) t e = refl

compact-told : (r : Run) (op : HistoryOp) → is_compact op ≡ true → (advance r op).told ≡ r.told
unfolding advance
compact-told r op e = ap (λ (t : Told). cond (accepted (called r op).answer) t r.told) (compact-says op r.told e) ∙
    cond_same (accepted (called r op).answer) r.told

-- ---- a history

pub after-good : (r : Run) → Good r → (h : History) → Good (after r h)
after-good r g [] = g
after-good r g (op ∷ h) = after-good (advance r op) (advance-good r g op) h

-- what holds of each call of a good run holds of each call of a legal history
pub each-moment : (P : Moment → Type 0) → ((r : Run) → Good r → (op : HistoryOp) → names_live r.told.living op ≡ true → P (record { before = r; op = op })) →
    (r : Run) → Good r → (h : History) → Legal r h → Each P (moments r h)
each-moment P f r g [] l = tt
each-moment P f r g (op ∷ h) l = (f r g op l.0, each-moment P f (advance r op) (advance-good r g op) h l.1)

-- a call as the machine takes it
pub record Follows (t : Told) (m : Moment) : Type 0 where
  pub told : m.before.told ≡ t
  pub answered : answer m ≡ some (answer_of (full m.before) t m.op)
  pub acceptance : accepts m ≡ accepted (answer_of (full m.before) t m.op)

-- calls one after the other
abbrev pub AllFollow : Told → List Moment → Type 0
AllFollow t [] = Unit
AllFollow t (m ∷ ms) = Follows t m × AllFollow (next (full m.before) t m.op) ms

pub history-follows : (r : Run) → Good r → (h : History) → Legal r h → AllFollow r.told (others r h)
history-follows r g [] l = tt
history-follows r g (op ∷ h) l = go (is_compact op) refl (history-follows (advance r op) (advance-good r g op) h l.1)
  where
    go : (b : Bool) → is_compact op ≡ b → AllFollow (advance r op).told (others (advance r op) h) →
        AllFollow r.told (cond (not b) (record { before = r; op = op } ∷ others (advance r op) h) (others (advance r op) h))
    go true e ih = subst (λ (t : Told). AllFollow t (others (advance r op) h)) (compact-told r op e) ih
    go false e ih = (
      record { told = refl; answered = answer-machine r g op l.0; acceptance = accepts-machine r g op l.0 },
      subst (λ (t : Told). AllFollow t (others (advance r op) h)) (told-machine r g op l.0) ih,
    )

pub others-struck : (r : Run) (h : History) → map (λ m. m.op) (others r h) ≡ struck h
others-struck r [] = refl
others-struck r (op ∷ h) = go (is_compact op) (others-struck (advance r op) h)
  where
    go : (b : Bool) → map (λ m. m.op) (others (advance r op) h) ≡ struck h →
        map (λ m. m.op) (cond (not b) (record { before = r; op = op } ∷ others (advance r op) h) (others (advance r op) h)) ≡
        cond (not b) (op ∷ struck h) (struck h)
    go true ih = ih
    go false ih = ap (λ (ops : History). op ∷ ops) ih
