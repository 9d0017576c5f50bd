-- A value whose scales are halves is written and read as it is; a read index is one, and stays one while nothing is added.
use mathlib.Core.Path.{◌≡◌, refl, sym, ap, ◌∙◌, subst}
use mathlib.Core.Bool.{Bool, true, false, not, cond, ◌&&◌}
use mathlib.Core.List.{List, [], ◌∷◌, map}
use mathlib.Core.Option.{Option, none, some}
use Prim.Native.Nat.{ℕ, zero, suc, ◌*◌, ◌≤◌}
use native.Mathlib.Omega.{arith}
use lib.ListN.{drop}
use lib.Dec.{T}
use Rattle.lists.specs.Keep.{any, Each}
use Rattle.lists.proofs.Keep.{either, each_keep, keep_all}
use Rattle.lists.proofs.Front.{each_map, each-tab, tab-each}
use Rattle.half.specs.Binary.{NaN}
use Rattle.half.specs.Half.{narrowed, widened}
use Rattle.half.proofs.Widen as Widen
use Rattle.codes.specs.Stage.{Stage}
use Rattle.encode.specs.Coded.{Code}
use Rattle.encode.specs.Header.{block_size}
use Rattle.index.specs.Arrays.{Arrays}
use Rattle.index.specs.State.{Mark, Slot, State, live, header_of, capacity, state_of}
use Rattle.index.specs.Step as Step
use Rattle.index.specs.Step.{Cell, live_from, slot_holding, rising, compacted, Outcome, with_slots, guarded, appended, remarked, step}
use Rattle.index.specs.Read.{little_endian, form_in, count_in, header_in, stage_from, stages_in, second_in, slot_in, slots_in, state_in}
use Rattle.index.specs.History.{HistoryOp, add, add_keyed, add_multi, relabel, remove, compact, score, search, search_keyed, key_of, contains, slot_of, file_length, write, op_at}
use Rattle.index.proofs.Kept.{call-state}
use Rattle.index.proofs.Refusals.{either_way}
use Rattle.index.proofs.Read.{read_live, read-rises}
use Rattle.histories.specs.Histories.{History, LiveArrival, Told, says, number_now, accepted, called, Run, advance, after, slots_of, filed_arrival, told_in, begin, renames, renamed, carries}
use Rattle.histories.specs.Houses.{House, opened}
use Rattle.histories.proofs.Held.{mark_for, seen_after, cells_of}
use Rattle.histories.proofs.Tracks.{none_seen, compacted-slots}
use Rattle.histories.proofs.Runs.{Good, advance-good}
use Rattle.histories.proofs.Houses.{house-good, house-told, house-fits, house-value, same-calls}
use Rattle.round_trip.specs.Back.{halved_if, halved_code, tidied_mark, tidied, saved, Opens}
use Rattle.round_trip.specs.Stored.{ScaleIf, Scales, Number, OfHalf, SavedAsItIs, NumberedFile, run_value, WrittenAs, Reopens, StoredUnchanged, is_add, StoredAtAnyTime, SameAfterReading}
use Rattle.round_trip.proofs.Halves.{back-to-itself}
use Rattle.round_trip.proofs.Calls.{out-saved, written-is-read}

-- ---- slots that are written and read as they are

scale_kept : (x : ℕ) → OfHalf x → widened (narrowed x) ≡ x
scale_kept x h =
    let low : NaN 10 5 h.half → ⊥ = h.number in
    ap (λ (y : ℕ). widened (narrowed y)) h.reads ∙ ap widened (back-to-itself h.half (omega (arith, low))) ∙ sym h.reads

code-kept : (c : Code) → Scales OfHalf c → halved_code c ≡ c
code-kept c h = λ i. record { first = record { scale = scale_kept c.first.scale h.0 i; block = c.first.block }; second = go c.second h.1 i }
  where
    go : (o : Option Stage) → ScaleIf OfHalf o → halved_if o ≡ o
    go none k = refl
    go (some g) k = λ i. some (record { scale = scale_kept g.scale k i; block = g.block })

all_own : (ss : List Slot) → Each (λ x. tidied_mark x.mark ≡ x.mark) ss → Each (λ x. Scales OfHalf x.code) ss → map tidied ss ≡ ss
all_own [] w h = refl
all_own (s ∷ ss) w h = λ i. record { mark = w.0 i; code = code-kept s.code h.0 i; year = s.year } ∷ all_own ss w.1 h.1 i

pub saved-as-it-is : SavedAsItIs
unfolding saved compacted
saved-as-it-is s t =
    let same : compacted s.slots ≡ s.slots = ap (rising (λ k. 0)) (keep_all live s.slots t.all_live) ∙ t.held in
    λ i. record { header = s.header; cascade = sym t.cascade i; slots = (ap (map tidied) same ∙ all_own s.slots t.words t.scales) i }

-- ---- a run whose live arrivals have such scales

abbrev Halves : List LiveArrival → Type 0
Halves ls = Each (λ l. Scales OfHalf l.code) ls

mark-own : (seen : ℕ → ℕ) (o : Option ℕ) → tidied_mark (mark_for seen o) ≡ mark_for seen o
mark-own seen none = refl
mark-own seen (some k) = refl

cells-own : (seen : ℕ → ℕ) (ls : List LiveArrival) → Each (λ c. tidied_mark c.slot.mark ≡ c.slot.mark) (cells_of seen ls)
cells-own seen [] = tt
cells-own seen (l ∷ ls) = (mark-own seen l.key, cells-own (seen_after seen l.key) ls)

cells-halves : (seen : ℕ → ℕ) (ls : List LiveArrival) → Halves ls → Each (λ c. Scales OfHalf c.slot.code) (cells_of seen ls)
cells-halves seen [] h = tt
cells-halves seen (l ∷ ls) h = (h.0, cells-halves (seen_after seen l.key) ls h.1)

module _ (r : Run) (g : Good r) (h : Halves r.told.living) where
  abbrev cells : List Cell
  cells = cells_of none_seen r.told.living

  slots-are : compacted (slots_of r) ≡ map (λ c. c.slot) cells
  slots-are = compacted-slots g.tracks

  saved-compacted : saved (run_value r) ≡ with_slots (run_value r) false (compacted (slots_of r))
  unfolding saved
  saved-compacted =
      ap (with_slots (run_value r) false)
      (ap (map tidied) slots-are ∙
      all_own (map (λ c. c.slot) cells) (each_map (λ x. tidied_mark x.mark ≡ x.mark) (λ c. c.slot) cells (cells-own none_seen r.told.living))
      (each_map (λ x. Scales OfHalf x.code) (λ c. c.slot) cells (cells-halves none_seen r.told.living h)) ∙
      sym slots-are)

  -- what a compaction leaves where the cascade is off
  compacted-value : r.index.cascade ≡ false → run_value (advance r compact) ≡ with_slots (run_value r) false (compacted (slots_of r))
  unfolding advance called step state_of
  compacted-value e =
      call-state r.index r.arrays Step.compact g.fits ∙
      ap (λ (b : Bool). with_slots (run_value r) (b && not (any (λ x. not (live x)) (slots_of r))) (compacted (slots_of r))) e

  module _ (e : r.index.cascade ≡ false) (out : List ℕ) (w : WrittenAs r out) where
    reopens : (b : Arrays) → r.index.live ≤ capacity (header_of r.index) b → Opens b out (run_value (advance r compact))
    reopens b space =
        subst (Opens b out) (saved-compacted ∙ sym (compacted-value e)) (written-is-read r.index r.arrays w.typed w.places out w.answer b space)

    same-value : state_in out ≡ run_value (advance r compact)
    same-value = out-saved r.index r.arrays w.typed w.places out w.answer ∙ saved-compacted ∙ sym (compacted-value e)

-- ---- no call of a history turns the cascade on

off-guarded : (s : State) (n : ℕ) (o : Outcome) → s.cascade ≡ false → o.state.cascade ≡ false → (guarded s n o).state.cascade ≡ false
unfolding guarded
off-guarded s zero o e f = f
off-guarded s (suc n) o e f = e

off-remarked : (s : State) (b : Bool) (n : ℕ) (f : Mark → Mark) → s.cascade ≡ false → (remarked s b n f).state.cascade ≡ false
unfolding remarked
off-remarked s true n f e = off-guarded s n _ e e
off-remarked s false n f e = e

off-step : (number : ℕ → ℕ) (room : ℕ) (s : State) (op : HistoryOp) → s.cascade ≡ false → (step room s (op_at number op)).state.cascade ≡ false
unfolding step appended
off-step number room s (add v y) e = off-guarded s _ _ e refl
off-step number room s (add_keyed j v y present) e =
    either_way (λ o. o.state.cascade ≡ false) (slot_holding j 0 (live_from 0 s.slots)) _ _ (λ q. off-guarded s _ _ e refl) (λ i q. off-guarded s _ _ e refl)
off-step number room s (add_multi j v y) e = off-guarded s _ _ e refl
off-step number room s (relabel j k) e = off-remarked s _ _ _ e
off-step number room s (remove j present) e = off-remarked s _ _ _ e
off-step number room s compact e = ap (λ (b : Bool). b && not (any (λ x. not (live x)) s.slots)) e
off-step number room s (score a q) e = e
off-step number room s (search q k places) e = e
off-step number room s (search_keyed q k places) e = e
off-step number room s (key_of a) e = e
off-step number room s (contains j) e = e
off-step number room s (slot_of j i) e = e
off-step number room s file_length e = e
off-step number room s (write places) e = e

-- ---- what is told by calls that add nothing has the same codes

says-halves : (op : HistoryOp) (t : Told) → is_add op ≡ false → Halves t.living → Halves (says op t).living
unfolding says
says-halves (add v y) t e h = absurd (subst T e tt)
says-halves (add_keyed j v y present) t e h = absurd (subst T e tt)
says-halves (add_multi j v y) t e h = absurd (subst T e tt)
says-halves (relabel j k) t e h = either Halves (renames j k t.living) (each_map (λ l. Scales OfHalf l.code) (renamed j k) t.living h) h
says-halves (remove j present) t e h = each_keep (λ l. Scales OfHalf l.code) (λ l. not (carries j l)) t.living h
says-halves compact t e h = h
says-halves (score a q) t e h = h
says-halves (search q k places) t e h = h
says-halves (search_keyed q k places) t e h = h
says-halves (key_of a) t e h = h
says-halves (contains j) t e h = h
says-halves (slot_of j i) t e h = h
says-halves file_length t e h = h
says-halves (write places) t e h = h

record Stays (r : Run) : Type 0 where
  good : Good r
  off : r.index.cascade ≡ false
  halves : Halves r.told.living

stays_on : (r : Run) → Stays r → (op : HistoryOp) → is_add op ≡ false → Stays (advance r op)
unfolding advance called state_of
stays_on r s op e =
    record {
      good = advance-good r s.good op;
      off =
          ap (λ (v : State). v.cascade) (call-state r.index r.arrays (op_at (number_now r.arrivals) op) s.good.fits) ∙
          off-step (number_now r.arrivals) (capacity (header_of r.index) r.arrays) (run_value r) op s.off;
      halves = either (λ (t : Told). Halves t.living) (accepted (called r op).answer) (says-halves op r.told e s.halves) s.halves;
    }

stays_after : (r : Run) → Stays r → (h : History) → Each (λ op. is_add op ≡ false) h → Stays (after r h)
stays_after r s [] e = s
stays_after r s (op ∷ h) e = stays_after (advance r op) (stays_on r s op e.0) h e.1

-- ---- what is read has such scales

module _ (file : List ℕ) (n : NumberedFile file) where
  -- a scale that is read
  read-half : (bytes : List ℕ) (i : ℕ) → Number (stage_from (block_size (header_in file)) (count_in file) bytes i).scale →
      OfHalf (stage_from (block_size (header_in file)) (count_in file) bytes i).scale
  unfolding stage_from
  read-half bytes i k =
      let x : ℕ = little_endian 2 (drop (i * 2) bytes) in
      record { half = x; number = λ q. k ((Widen.meets x (widened x) refl).nan q); reads = refl }

  read-halves : Halves (told_in file).living
  unfolding slot_in
  read-halves =
      each-tab (λ l. Scales OfHalf l.code) (filed_arrival file) (count_in file)
      (λ i l. let k = tab-each (λ l. Scales Number l.code) (filed_arrival file) (count_in file) n i l in
      (read-half (stages_in file) i k.0, second i (form_in file).second k.1))
    where
      second : (i : ℕ) (b : Bool) → ScaleIf Number (cond b (some (stage_from (block_size (header_in file)) (count_in file) (second_in file) i)) none) →
          ScaleIf OfHalf (cond b (some (stage_from (block_size (header_in file)) (count_in file) (second_in file) i)) none)
      second i true k = read-half (second_in file) i k
      second i false k = tt

  module _ (p : House file) where
    house-stays : Stays (opened p)
    unfolding begin state_of state_in
    house-stays =
        record {
          good = house-good p;
          off = ap (λ (s : State). s.cascade) (house-value p);
          halves = subst (λ (t : Told). Halves t.living) (sym (house-told p)) read-halves;
        }

    -- a compaction leaves it as it was read
    house-compacted : run_value (advance (opened p) compact) ≡ run_value (opened p)
    unfolding begin state_of state_in compacted
    house-compacted =
        let s = house-stays in
        compacted-value (opened p) s.good s.halves s.off ∙
        ap (λ (v : State). with_slots v false (compacted v.slots)) (house-value p) ∙
        ap (with_slots (state_in file) false) (ap (rising (λ k. 0)) (keep_all live (slots_in file) (read_live file)) ∙ read-rises file) ∙ sym (house-value p)

pub stored-at-any-time : StoredAtAnyTime
stored-at-any-time file n p h e = let s = stays_after (opened p) (house-stays file n p) h e in reopens (after (opened p) h) s.good s.halves s.off

pub stored-unchanged : StoredUnchanged
stored-unchanged file n p = subst (Reopens (opened p)) (house-compacted file n p) (stored-at-any-time file n p [] tt)

pub same-after-reading : SameAfterReading
same-after-reading file n p h e out w q ops k =
    let s = stays_after (opened p) (house-stays file n p) h e in
    let r : Run = after (opened p) h in
    let y : Run = advance r compact in
    same-calls q.index y.index q.arrays y.arrays (house-fits q) (advance-good r s.good compact).fits
    (house-value q ∙ same-value r s.good s.halves s.off out w) ops k
