-- The theorem on histories.
use mathlib.Core.Path.{◌≡◌, refl, sym, ap, ap₂, ◌∙◌, subst}
use mathlib.Core.Bool.{Bool, cond}
use mathlib.Core.List.{List, [], ◌∷◌, map, head-eq_of_cons-eq, tail-eq_of_cons-eq}
use mathlib.Core.Option.{some}
use Prim.Native.Nat.{ℕ}
use native.Mathlib.Omega.{arith}
use lib.ListN.{length, length-map}
use Rattle.lists.proofs.Keep.{length-keep}
use Rattle.index.specs.declared.Index.{Index}
use Rattle.index.specs.Arrays.{Arrays}
use Rattle.index.specs.State.{Slot, record_of, live}
use Rattle.index.specs.Step.{Answer}
use Rattle.index.specs.History.{HistoryOp}
use Rattle.index.proofs.Fits.{fitting, record-self}
use Rattle.histories.specs.Histories.{History, Told, says, Run, Moment, after, accepts, accepted, answer, struck, others, Start, begin, Legal, SameAnswers, Faithful, AlwaysFaithful, AlwaysRead, AlwaysAnswersKeys, AlwaysAnswersAdds, AlwaysAnswersScores, AlwaysFiles, AlwaysKeepsYears, LeaveAlike, Paired, SameLeft, PartsFull, PartAtRoomOnly, is_append, slots_of, live_by}
use Rattle.histories.specs.Houses.{FiledAlike}
use Rattle.histories.proofs.Cells.{cells-slots}
use Rattle.histories.proofs.Held.{cells-length}
use Rattle.histories.proofs.Tracks.{none_seen, live-numbers, held-rises, marks-agree}
use Rattle.histories.proofs.Machine.{answer_of, next, PartFull, answers-part}
use Rattle.histories.proofs.Runs.{Good, full, after-good, each-moment, answer-machine, Follows, AllFollow, history-follows, others-struck}
use Rattle.histories.proofs.Starts.{slots-in-use, start-good}
use Rattle.histories.proofs.Files.{good-files}
use Rattle.histories.proofs.Keys.{good-keys}
use Rattle.histories.proofs.Adds.{good-adds}
use Rattle.histories.proofs.Scores.{good-scores}
use Rattle.histories.proofs.Left.{answered-alike}
use Rattle.histories.proofs.Years.{keeps-years}

-- ---- two calls that the machine takes in the same state

module _ (t : Told) (m n : Moment) (a : Follows t m) (b : Follows t n) (e : m.op ≡ n.op) where
  parted : PartFull (is_append m.op t.living) (answer_of (full m.before) t m.op) (answer_of (full n.before) t n.op)
  parted =
      subst (λ (op : HistoryOp). PartFull (is_append m.op t.living) (answer_of (full m.before) t m.op) (answer_of (full n.before) t op)) e
      (answers-part (full m.before) (full n.before) t m.op)

  same-machine : accepts m ≡ accepts n → answer_of (full m.before) t m.op ≡ answer_of (full n.before) t n.op
  same-machine f = parted.same (sym a.acceptance ∙ f ∙ b.acceptance)

  same_answer : accepts m ≡ accepts n → answer m ≡ answer n
  same_answer f = a.answered ∙ ap some (same-machine f) ∙ sym b.answered

  leave-alike : accepts m ≡ accepts n → LeaveAlike m n
  leave-alike f = answered-alike m n (answer_of (full m.before) t m.op) a.answered (b.answered ∙ ap some (sym (same-machine f)))

  same_next : accepts m ≡ accepts n → next (full m.before) t m.op ≡ next (full n.before) t n.op
  same_next f = ap₂ (λ (c : Bool) (op : HistoryOp). cond c (says op t) t) (ap accepted (same-machine f)) e

-- ---- two lists of such calls

-- the same calls, taken in the same states where they are accepted alike
module _ (R : Moment → Moment → Type 0) (same : (t : Told) (m n : Moment) → Follows t m → Follows t n → m.op ≡ n.op → accepts m ≡ accepts n → R m n) where
  followed : (t : Told) (ms ns : List Moment) → AllFollow t ms → AllFollow t ns → map (λ m. m.op) ms ≡ map (λ m. m.op) ns →
      map accepts ms ≡ map accepts ns → Paired R ms ns
  followed t [] [] a b e g = tt
  followed t [] (n ∷ ns) a b e g = let z : ◌≡◌ {A = ℕ} 0 1 = cc in omega arith
  followed t (m ∷ ms) [] a b e g = let z : ◌≡◌ {A = ℕ} 0 1 = cc in omega arith
  followed t (m ∷ ms) (n ∷ ns) a b e g =
      let op : m.op ≡ n.op = head-eq_of_cons-eq e in
      let ok : accepts m ≡ accepts n = head-eq_of_cons-eq g in (
        same t m n a.0 b.0 op ok,
        followed (next (full m.before) t m.op) ms ns a.1 (subst (λ (u : Told). AllFollow u ns) (sym (same_next t m n a.0 b.0 op ok)) b.1)
            (tail-eq_of_cons-eq e) (tail-eq_of_cons-eq g),
      )

paired-map : {A : Type 0} (f : Moment → A) (ms ns : List Moment) → Paired (λ m n. f m ≡ f n) ms ns → map f ms ≡ map f ns
paired-map f [] [] p = refl
paired-map f [] (n ∷ ns) p = absurd p
paired-map f (m ∷ ms) [] p = absurd p
paired-map {A} f (m ∷ ms) (n ∷ ns) p = ap₂ (λ (x : A) (xs : List A). x ∷ xs) p.0 (paired-map f ms ns p.1)

-- where they part
parts : (t : Told) (ms ns : List Moment) → AllFollow t ms → AllFollow t ns → map (λ m. m.op) ms ≡ map (λ m. m.op) ns → PartsFull ms ns
parts t [] ns a b e = tt
parts t (m ∷ ms) [] a b e = tt
parts t (m ∷ ms) (n ∷ ns) a b e =
    let op : m.op ≡ n.op = head-eq_of_cons-eq e in
    let p = parted t m n a.0 b.0 op in (
      λ f g. let q = p.left (sym a.0.acceptance ∙ f) (sym b.0.acceptance ∙ g) in
          record { append = rw a.0.told q.0; refusal = b.0.answered ∙ ap some q.1 },
      λ f g. let q = p.right (sym a.0.acceptance ∙ f) (sym b.0.acceptance ∙ g) in
          record { append = rw (b.0.told, ← op) q.0; refusal = a.0.answered ∙ ap some q.1 },
      λ f. parts (next (full m.before) t m.op) ms ns a.1 (subst (λ (u : Told). AllFollow u ns) (sym (same_next t m n a.0 b.0 op f)) b.1)
          (tail-eq_of_cons-eq e),
    )

-- two runs that are told the same: what two histories, the same but for compactions, come to
module _ (r q : Run) (g : Good r) (k : Good q) (e : r.told ≡ q.told) (h₁ h₂ : History) (l₁ : Legal r h₁) (l₂ : Legal q h₂) (s : struck h₁ ≡ struck h₂) where
  pub told-alike : FiledAlike (others r h₁) (others q h₂)
  told-alike =
      let t : Told = r.told in
      let ms : List Moment = others r h₁ in
      let ns : List Moment = others q h₂ in
      let a : AllFollow t ms = history-follows r g h₁ l₁ in
      let b : AllFollow t ns = subst (λ (u : Told). AllFollow u ns) (sym e) (history-follows q k h₂ l₂) in
      let ops = others-struck r h₁ ∙ s ∙ sym (others-struck q h₂) in
      record {
        parting = parts t ms ns a b ops;
        answers = λ f. paired-map answer ms ns (followed (λ m n. answer m ≡ answer n) same_answer t ms ns a b ops f);
        leavings = followed LeaveAlike leave-alike t ms ns a b ops;
      }

-- ---- the claims on two histories from one start

module _ (x : Index) (a : Arrays) (s : Start x a) (h₁ h₂ : History) (l₁ : Legal (begin x a) h₁) (l₂ : Legal (begin x a) h₂) (e : struck h₁ ≡ struck h₂) where
  start-alike : FiledAlike (others (begin x a) h₁) (others (begin x a) h₂)
  start-alike = told-alike (begin x a) (begin x a) (start-good x a s) (start-good x a s) refl h₁ h₂ l₁ l₂ e

pub same-answers : SameAnswers
same-answers x a s h₁ h₂ l₁ l₂ e = (start-alike x a s h₁ h₂ l₁ l₂ e).answers

pub same_left : SameLeft
same_left x a s h₁ h₂ l₁ l₂ e = (start-alike x a s h₁ h₂ l₁ l₂ e).leavings

pub part-at-room-only : PartAtRoomOnly
part-at-room-only x a s h₁ h₂ l₁ l₂ e = (start-alike x a s h₁ h₂ l₁ l₂ e).parting

-- ---- laws beside

pub always-read : AlwaysRead
always-read x a s h l = each-moment (λ m. (b : Answer) × (answer m ≡ some b)) (λ r g op n. (answer_of (full r) r.told op, answer-machine r g op n))
    (begin x a) (start-good x a s) h l

live-count : (r : Run) → Good r → r.index.live ≡ length r.told.living
unfolding record_of
live-count r g =
    let ss : List Slot = slots_of r in
    ap (λ (y : Index). y.live) (sym (record-self r.index r.arrays g.fits)) ∙ sym (length-keep live ss) ∙
    ap length (sym (cells-slots r.arrivals ss g.tracks.places)) ∙
    length-map (live_by r.arrivals ss) (λ c. c.slot) ∙ ap length g.tracks.cells ∙ cells-length none_seen r.told.living

good-faithful : (r : Run) → Good r → Faithful r
good-faithful r g =
    record {
      fits = g.fits;
      clear = (fitting r.index r.arrays g.fits).clear;
      header = g.header;
      in_use = g.tracks.places ∙ slots-in-use r.index r.arrays;
      numbers = live-numbers g.tracks;
      marks = marks-agree g.tracks;
      live = live-count r g;
      held = held-rises g.tracks;
    }

pub always-faithful : AlwaysFaithful
always-faithful x a s h = good-faithful (after (begin x a) h) (after-good (begin x a) (start-good x a s) h)

pub always-files : AlwaysFiles
always-files x a s h = good-files (after (begin x a) h) (after-good (begin x a) (start-good x a s) h)

pub always-answers-keys : AlwaysAnswersKeys
always-answers-keys x a s h = good-keys (after (begin x a) h) (after-good (begin x a) (start-good x a s) h)

pub always-answers-adds : AlwaysAnswersAdds
always-answers-adds x a s h = good-adds (after (begin x a) h) (after-good (begin x a) (start-good x a s) h)

pub always-answers-scores : AlwaysAnswersScores
always-answers-scores x a s h = good-scores (after (begin x a) h) (after-good (begin x a) (start-good x a s) h)

pub always-keeps-years : AlwaysKeepsYears
always-keeps-years x a s h = keeps-years (after (begin x a) h) (after-good (begin x a) (start-good x a s) h)
