-- Key questions, relabelling and removal answer what the calls tell of the live arrivals.
use mathlib.Core.Path.{◌≡◌, refl, ap, ap₂, ◌∙◌}
use mathlib.Core.Bool.{Bool, true, not, ◌&&◌, ◌||◌}
use mathlib.Core.List.{List, [], ◌∷◌}
use mathlib.Core.Option.{Option, none, some}
use Prim.Native.Nat.{ℕ, ◌+◌, ◌<◌}
use native.Mathlib.Omega.{arith}
use lib.ListN.{get_elem?}
use lib.Dec.{eqb}
use borrow.Author.Tests.{eq-eqb, ne_eqb}
use Rattle.lists.specs.Keep.{Each}
use Rattle.lists.proofs.Keep.{each-mem, each_weaken, each_both}
use Rattle.lists.proofs.Members.{mem-map, any-mem}
use Rattle.index.specs.State.{Mark, Slot, new_slot}
use Rattle.index.specs.Step.{flag, maybe_slot, maybe_key, Cell, key_of_mark, slot_holding, key_answer}
use Rattle.index.specs.History.{relabel, remove, key_of, contains, slot_of}
use Rattle.histories.specs.Histories.{LiveArrival, ids, lives, holders, Run, moment, answer, AnswersKeys}
use Rattle.histories.proofs.Arrivals.{Sorted}
use Rattle.histories.proofs.Held.{mark_for, seen_after, cells_of, held-taken, holding}
use Rattle.histories.proofs.Tracks.{none_seen, ids-sorted, find}
use Rattle.histories.proofs.Machine.{answer_of}
use Rattle.histories.proofs.Runs.{Good, answer-machine}

-- ---- the i-th arrival of a key holds the position i

pub holders-hold : (j i : ℕ) (ls : List LiveArrival) → slot_holding j i (cells_of none_seen ls) ≡ get_elem? (holders j ls) i
holders-hold j i ls = let z : i ≡ i + none_seen j = omega arith in ap (λ (n : ℕ). slot_holding j n (cells_of none_seen ls)) z ∙ holding j i none_seen ls

-- ---- the slot of a live arrival, arrivals rising

mark-key : (seen : ℕ → ℕ) (o : Option ℕ) → key_of_mark (mark_for seen o) ≡ o
mark-key seen none = refl
mark-key seen (some k) = refl

-- the slot that an arrival names has its key, its code and its year
abbrev pub Named : (ls : List Cell) → LiveArrival → Type 0
Named cs l = (m : Mark) × (find l.arrival cs ≡ some (new_slot m l.code l.year)) × (key_of_mark m ≡ l.key)

pub find-own : (seen : ℕ → ℕ) (ls : List LiveArrival) → Sorted (ids ls) → Each (Named (cells_of seen ls)) ls
find-own seen [] s = tt
find-own seen (l ∷ ls) s =
    ((mark_for seen l.key, rw (eq-eqb l.arrival l.arrival refl), mark-key seen l.key), later ls s.0 (find-own (seen_after seen l.key) ls s.1))
  where
    later : (ms : List LiveArrival) → Each (λ a. l.arrival < a) (ids ms) → Each (Named (cells_of (seen_after seen l.key) ls)) ms → Each (Named (cells_of seen (l ∷ ls))) ms
    later [] h k = tt
    later (m ∷ ms) h k = ((k.0.0, rw (ne_eqb m.arrival l.arrival (λ q. absurd (omega (arith, q, h.0)))) k.0.1, k.0.2), later ms h.1 k.1)

pub all_live : (ls : List LiveArrival) → Each (λ l. lives ls l.arrival ≡ true) ls
all_live ls = each-mem (λ l. lives ls l.arrival ≡ true) ls (λ l m. any-mem (eqb l.arrival) (mem-map (λ (x : LiveArrival). x.arrival) m) (eq-eqb l.arrival l.arrival refl))

-- ---- the answers

pub good-keys : (r : Run) → Good r → AnswersKeys r
unfolding answer_of
good-keys r g =
    let ls : List LiveArrival = r.told.living in
    record {
      keys =
          each_weaken (λ l. (lives ls l.arrival ≡ true) × Named (cells_of none_seen ls) l) (λ l. answer (moment r (key_of l.arrival)) ≡ some (maybe_key l.key)) ls
          (λ l p. answer-machine r g (key_of l.arrival) p.0 ∙ ap (λ (o : Option Slot). some (maybe_key (key_answer o))) p.1.1 ∙ ap (λ (o : Option ℕ). some (maybe_key o)) p.1.2)
          (each_both (λ l. lives ls l.arrival ≡ true) (Named (cells_of none_seen ls)) ls (all_live ls) (find-own none_seen ls (ids-sorted g.tracks)));
      contained = λ j. answer-machine r g (contains j) refl ∙ ap (λ (b : Bool). some (flag b)) (held-taken j none_seen ls);
      held = λ j i. answer-machine r g (slot_of j i) refl ∙ ap (λ (o : Option ℕ). some (maybe_slot o)) (holders-hold j i ls);
      relabelled = λ j k. answer-machine r g (relabel j k) refl ∙
          ap₂ (λ (b c : Bool). some (flag (b && (eqb j k || not c)))) (held-taken j none_seen ls) (held-taken k none_seen ls);
      removed = λ j present. answer-machine r g (remove j present) refl;
    }
