-- One call on a value: the slots go on holding the live arrivals that the calls tell of, and the answer, read by arrival, is the machine's.
use mathlib.Core.Path.{◌≡◌, refl, sym, ap, ap₂, ◌∙◌, subst}
use mathlib.Core.Bool.{Bool, true, false, not, cond, ◌&&◌, ◌||◌}
use mathlib.Core.List.{List, [], ◌∷◌, ◌++◌, map}
use mathlib.Core.Option
use mathlib.Core.Option.{Option, none, some, map-eq-none_iff, map-eq-some_iff}
use Prim.Native.Nat.{ℕ, zero, suc}
use native.Mathlib.Nat.{add-zero}
use native.Mathlib.Omega.{arith}
use lib.ListN.{length, get_elem?}
use lib.Dec.{T, leb, eqb}
use lib.Ieee.{Float, is_nan}
use borrow.Author.Tests.{not-true, eqb-true}
use Rattle.lists.specs.Keep.{keep, count, Each, any}
use Rattle.lists.proofs.Keep.{each-mem, each_weaken, keep_all}
use Rattle.encode.specs.declared.Header.{Header}
use Rattle.encode.specs.Coded.{fault}
use Rattle.index.specs.State.{Mark, dead, unkeyed, keyed, is_live, Slot, State, live}
use Rattle.index.specs.Codec.{score_of}
use Rattle.index.specs.Step as Step
use Rattle.index.specs.Step.{Item, Query, Answer, refused, done, flag, slot, maybe_slot, maybe_key, score_is, first_of, when, unless, Cell, live_from, must_stay, any_must_stay, holds, holds_at, held_by, is_held, slot_holding, score_answer, key_answer, on_mark, removed, Outcome, answered, with_slots, guarded, appended, remarked, step}
use Rattle.index.specs.History.{HistoryOp, add, add_keyed, add_multi, relabel, remove, compact, score, search, search_keyed, key_of, contains, slot_of, file_length, write, op_at}
use Rattle.lists.proofs.Tests.{and_right}
use Rattle.lists.proofs.Members.{any_none}
use Rattle.lists.proofs.Entries.{elem-map}
use Rattle.index.proofs.Refusals.{either_way}
use Rattle.index.proofs.Questions.{Slots, held-renamed, where-renamed, Asks, search-asks, search_keyed-asks, contains-asks, slot_of-asks, length-asks, write-asks}
use Rattle.histories.specs.Histories.{LiveArrival, Told, with_living, carries, taken, newcomer, arrived, first_overwritten, first_with, one_stays, renames, renamed, says, ids, kept_arrivals, number_now, arrival_at, read, accepted, names_live}
use Rattle.histories.proofs.Cells.{on_cell, live_cell, cell_stays, stays-live}
use Rattle.histories.proofs.Held.{mark_for, cell_for, cells_of, all_seen, cells-live, held-count, held-taken, untaken, found, holding, first-taken, stays-held, stays-first, cells-overwritten, ids-overwritten, cells-removed, cells-relabelled}
use Rattle.histories.proofs.Reading.{read_back}
use Rattle.histories.proofs.Tracks.{none_seen, Tracks, arrival_of, cells-seen, numbers-read, tracks-map, tracks-more, tracks-compacted, next-read, find, live-slot}
use Rattle.histories.proofs.Machine.{cells_in, appending, appending_or_over, answer_of}

pub cond_same : {A : Type 0} (b : Bool) (x : A) → cond b x x ≡ x
cond_same true x = refl
cond_same false x = refl

-- ---- no dead slot is revived

removed-dead : (j : ℕ) (m : Mark) → is_live m ≡ false → is_live (removed j m) ≡ false
removed-dead j (dead u) e = refl
removed-dead j (unkeyed u) e = e
removed-dead j (keyed k p) e = absurd (subst T e tt)

relabelled-dead : (j k : ℕ) (m : Mark) → is_live m ≡ false → is_live (Step.relabelled j k m) ≡ false
relabelled-dead j k (dead u) e = refl
relabelled-dead j k (unkeyed u) e = e
relabelled-dead j k (keyed i p) e = absurd (subst T e tt)

-- ---- removal and relabelling of what the calls tell of

keeps-all : (j : ℕ) (ls : List LiveArrival) → taken j ls ≡ false → keep (λ l. not (carries j l)) ls ≡ ls
keeps-all j ls e = keep_all (λ l. not (carries j l)) ls (each_weaken (λ l. carries j l ≡ false) (λ l. not (carries j l) ≡ true) ls (λ l f. ap not f)
    (any_none (carries j) ls e))

none-stays : (j present : ℕ) (ls : List LiveArrival) → taken j ls ≡ false → one_stays j present ls ≡ false
unfolding any
none-stays j present [] e = refl
none-stays j present (l ∷ ls) e = go (carries j l) e (none-stays j present ls)
  where
    go : (b : Bool) → (b || taken j ls) ≡ false → (taken j ls ≡ false → one_stays j present ls ≡ false) → ((b && must_stay present l.year) || one_stays j present ls) ≡ false
    go true f ih = absurd (subst T f tt)
    go false f ih = ih f

-- whoever has the new key has the old one
new-is-old : (j k : ℕ) (ls : List LiveArrival) → (eqb j k || not (taken k ls)) ≡ true → Each (λ l. carries k l ≡ true → carries j l ≡ true) ls
new-is-old j k ls e = go (eqb j k) refl e
  where
    go : (b : Bool) → eqb j k ≡ b → (b || not (taken k ls)) ≡ true → Each (λ l. carries k l ≡ true → carries j l ≡ true) ls
    go true f e = each-mem (λ l. carries k l ≡ true → carries j l ≡ true) ls (λ l m g. subst (λ (i : ℕ). carries i l ≡ true) (sym (eqb-true j k f)) g)
    go false f e = each_weaken (λ l. carries k l ≡ false) (λ l. carries k l ≡ true → carries j l ≡ true) ls (λ l g t. absurd (subst T (sym t ∙ g) tt))
        (any_none (carries k) ls (not-true (taken k ls) e))

-- a score answer has no slot
read-unless : (g : ℕ → Option ℕ) (n : ℕ) (b : Answer) → read g b ≡ some b → read g (unless n b) ≡ some (unless n b)
read-unless g zero b e = e
read-unless g (suc n) b e = refl

score-read : (g : ℕ → Option ℕ) (h : Header) (q : Query) (o : Option Slot) → read g (score_answer h q o) ≡ some (score_answer h q o)
unfolding score_answer
score-read g h q none = read-unless g (first_of (fault h q.vector ∷ 9 ∷ [])) done refl
score-read g h q (some s) = let x : Float = score_of h q s.code in read-unless g (first_of (fault h q.vector ∷ when (is_nan x) 12 ∷ [])) (score_is x) refl

-- ---- a call

-- ws: the arrivals of the slots; t: what is told before the call
module _ (ws : List ℕ) (t : Told) (room : ℕ) (cascade : Bool) (ss : List Slot) (tr : Tracks ws t.next ss t.living) where
  abbrev s : State
  s = record { header = t.header; cascade = cascade; slots = ss }

  abbrev full : Bool
  full = leb room (length ss)

  abbrev ws_after : HistoryOp → Answer → List ℕ
  ws_after op b = cond (accepted b) (kept_arrivals op t ws) ws

  abbrev told_after : HistoryOp → Answer → Told
  told_after op b = cond (accepted b) (says op t) t

  pub record Taken (op : HistoryOp) (o : Outcome) : Type 0 where
    pub header : o.state.header ≡ t.header
    pub told : (told_after op o.answer).header ≡ t.header
    pub tracks : Tracks (ws_after op o.answer) (told_after op o.answer).next o.state.slots (told_after op o.answer).living
    pub answer : names_live t.living op ≡ true → read (arrival_at (ws_after op o.answer) (ids (told_after op o.answer).living)) o.answer ≡
        some (answer_of full t op)

  -- a call that tells nothing
  quiet : (op : HistoryOp) (b : Answer) → ws_after op b ≡ ws → told_after op b ≡ t → (names_live t.living op ≡ true →
      read (arrival_at ws (ids t.living)) b ≡ some (answer_of full t op)) →
      Taken op (answered s b)
  quiet op b e f a =
      record {
        header = refl;
        told = ap (λ (u : Told). u.header) f;
        tracks = rw (e, f) tr;
        answer = λ n. rw (e, f) (a n);
      }

  -- each slot changed by itself
  changed : (op : HistoryOp) (g : Slot → Slot) (on : Bool) (b : Answer) (ls : List LiveArrival) → ws_after op b ≡ ws → told_after op b ≡ with_living t ls →
      ((x : Slot) → live x ≡ false → live (g x) ≡ false) → keep live_cell (map (on_cell g) (cells_in t)) ≡ cells_of none_seen ls →
      read (arrival_at ws (ids ls)) b ≡ some (answer_of full t op) → Taken op (record { state = with_slots s on (map g ss); answer = b })
  changed op g on b ls e f d c a =
      record {
        header = refl;
        told = ap (λ (u : Told). u.header) f;
        tracks = rw (e, f) (tracks-map tr g ls d c);
        answer = λ n. rw (e, f) a;
      }

  -- one more slot
  grown : (op : HistoryOp) (key : Option ℕ) (m : Mark) (v : Item) (y : ℕ) → kept_arrivals op t ws ≡ ws ++ (t.next ∷ []) → says op t ≡ arrived t key v y →
      m ≡ mark_for (all_seen none_seen t.living) key →
      answer_of full t op ≡ appending full t v → Taken op (appended room s m v y)
  unfolding appended guarded
  grown op key m v y e f c a = rw c (go (first_of (fault t.header v.vector ∷ when full 8 ∷ [])) refl)
    where
      go : (n : ℕ) → first_of (fault t.header v.vector ∷ when full 8 ∷ []) ≡ n →
          Taken op (guarded s n (record {
            state = with_slots s false (ss ++ ((cell_for (all_seen none_seen t.living)
                (newcomer t key v y)).slot ∷ []));
            answer = slot (length ss);
          }))
      go zero z =
          record {
            header = refl;
            told = ap (λ (u : Told). u.header) f;
            tracks = rw (e, f) (tracks-more tr (newcomer t key v y) refl);
            answer = λ n. rw (e, f, a, z, next-read tr (newcomer t key v y) refl);
          }
      go (suc n) z = quiet op (refused (suc n)) refl refl (λ l. rw (a, z))

  -- ---- the calls

  held-now : (j : ℕ) → held_by j (live_from 0 ss) ≡ held_by j (cells_in t)
  held-now j = sym (held-renamed j (arrival_of tr) (live_from 0 ss)) ∙ ap (held_by j) (cells-seen tr)

  -- a question of the live slots tells nothing, whatever is answered
  asked : (op : HistoryOp) {ask : Header → List Cell → Answer} → Asks (op_at (number_now ws) op) ask → ask t.header (cells_in t) ≡ answer_of full t op →
      kept_arrivals op t ws ≡ ws → says op t ≡ t →
      Taken op (step room s (op_at (number_now ws) op))
  asked op {ask} asks m e f =
      let b : Answer = ask t.header (live_from 0 ss) in
      subst (Taken op) (sym (asks.asked room s))
      (quiet op b (ap (λ (x : List ℕ). cond (accepted b) x ws) e ∙ cond_same (accepted b) ws) (ap (λ (x : Told). cond (accepted b) x t) f ∙ cond_same (accepted b) t)
      (λ n. read_back (arrival_at ws (ids t.living)) (arrival_of tr) b ((asks.blind t.header).slots _ (live_from 0 ss) (numbers-read tr)) ∙
      ap some ((asks.blind t.header).renamed (arrival_of tr) (live_from 0 ss) ∙ ap (ask t.header) (cells-seen tr) ∙ m)))

  -- whose year must stay, among the slots that pass by their marks
  stays-now : (present : ℕ) (p : Mark → Bool) → ((u : ℕ) → p (dead u) ≡ false) → any_must_stay p present ss ≡ any (cell_stays present p) (cells_in t)
  stays-now present p d = stays-live present p d ws ss tr.places ∙ ap (any (cell_stays present p)) tr.cells

  -- a change of marks, with a yes or no, or a refusal
  marking : (op : HistoryOp) (f : Mark → Mark) (b : Bool) (refusal : ℕ) (ls : List LiveArrival) → kept_arrivals op t ws ≡ ws →
      (b ≡ true → says op t ≡ with_living t ls) → (b ≡ false → says op t ≡ t) →
      ((m : Mark) → is_live m ≡ false → is_live (f m) ≡ false) → (b ≡ true → keep live_cell (map (on_cell (on_mark f)) (cells_in t)) ≡ cells_of none_seen ls) →
      (b ≡ true → answer_of full t op ≡ unless refusal (flag true)) → (b ≡ false → answer_of full t op ≡ flag false) →
      Taken op (remarked s b refusal f)
  unfolding remarked guarded
  marking op f true zero ls e y n d c a k = changed op (on_mark f) cascade (flag true) ls e (y refl) (λ x. d x.mark) (c refl) (ap some (sym (a refl)))
  marking op f true (suc i) ls e y n d c a k = quiet op (refused (suc i)) refl refl (λ l. ap some (sym (a refl)))
  marking op f false i ls e y n d c a k = quiet op (flag false) e (n refl) (λ l. ap some (sym (k refl)))

  may-now : (j k : ℕ) → (is_held j (cells_in t) && (eqb j k || not (is_held k (cells_in t)))) ≡ renames j k t.living
  may-now j k = ap₂ (λ (x y : Bool). x && (eqb j k || not y)) (held-taken j none_seen t.living) (held-taken k none_seen t.living)

  relabel-taken : (j k : ℕ) → Taken (relabel j k) (step room s (Step.relabel j k))
  unfolding step says kept_arrivals answer_of
  relabel-taken j k =
      let ls : List LiveArrival = t.living in
      rw (held-now j, held-now k, may-now j k)
      (marking (relabel j k) (Step.relabelled j k) (renames j k ls) 0 (map (renamed j k) ls) refl (λ e. rw e) (λ e. rw e) (relabelled-dead j k)
      (λ e.
      ap (keep live_cell) (cells-relabelled j k none_seen none_seen ls refl (λ i n m. refl)
      (new-is-old j k ls (and_right (taken j ls) (eqb j k || not (taken k ls)) e))) ∙
      keep_all live_cell (cells_of none_seen (map (renamed j k) ls)) (cells-live none_seen (map (renamed j k) ls)))
      (λ e. ap flag (may-now j k ∙ e)) (λ e. ap flag (may-now j k ∙ e)))

  remove-taken : (j present : ℕ) → Taken (remove j present) (step room s (Step.remove j present))
  unfolding step says kept_arrivals answer_of
  remove-taken j present =
      let ls : List LiveArrival = t.living in
      rw (held-now j, held-taken j none_seen ls, stays-now present (holds j) (λ u. refl), stays-held present j none_seen ls)
      (marking (remove j present) (removed j) (taken j ls) (when (one_stays j present ls) 21) (keep (λ l. not (carries j l)) ls) refl (λ e. refl)
      (λ e. ap (with_living t) (keeps-all j ls e)) (removed-dead j) (λ e. cells-removed j none_seen none_seen ls (λ i n. refl))
      (λ e. may (one_stays j present ls) e) (λ e. rw (none-stays j present ls e, e)))
    where
      may : (b : Bool) → taken j t.living ≡ true → cond b (refused 21) (flag (taken j t.living)) ≡ unless (when b 21) (flag true)
      may true e = refl
      may false e = ap flag e

  multi-taken : (j : ℕ) (v : Item) (y : ℕ) → Taken (add_multi j v y) (step room s (Step.add_multi j v y))
  unfolding step says kept_arrivals answer_of
  multi-taken j v y =
      grown (add_multi j v y) (some j) (keyed j (held_by j (live_from 0 ss))) v y refl refl
      (ap (keyed j) (held-now j ∙ held-count j none_seen t.living ∙ sym (add-zero (count (carries j) t.living)))) refl

  -- the slot at position 0 of the key, by arrival
  first-seen : (j : ℕ) (o : Option ℕ) → slot_holding j 0 (live_from 0 ss) ≡ o → Option.map (λ l. l.arrival) (first_with j t.living) ≡ Option.map (arrival_of tr) o
  first-seen j o e =
      sym (ap (Option.map (arrival_of tr)) (sym e) ∙ where-renamed (holds_at j 0) (arrival_of tr) (live_from 0 ss) ∙ ap (slot_holding j 0) (cells-seen tr) ∙
      holding j 0 none_seen t.living ∙ elem-map (λ (l : LiveArrival). l.arrival) (keep (carries j) t.living) 0)

  -- of a key that no live arrival has: an append
  keyed-first : (j : ℕ) (v : Item) (y present : ℕ) → slot_holding j 0 (live_from 0 ss) ≡ none → Taken (add_keyed j v y present) (appended room s (keyed j 0) v y)
  unfolding says kept_arrivals answer_of
  keyed-first j v y present e =
      let none_has : first_with j t.living ≡ none = (map-eq-none_iff (λ (l : LiveArrival). l.arrival) (first_with j t.living)).0 (first-seen j none e) in
      let free : taken j t.living ≡ false = sym (first-taken j t.living) ∙ ap found none_has in
      grown (add_keyed j v y present) (some j) (keyed j 0) v y (rw free) (rw free) (ap (keyed j) (omega (arith, untaken j t.living free)))
      (ap (appending_or_over full t v present) none_has)

  -- of a key that one has: an overwrite
  keyed-again : (j : ℕ) (v : Item) (y present i : ℕ) → slot_holding j 0 (live_from 0 ss) ≡ some i →
      Taken (add_keyed j v y present)
      (guarded s (first_of (fault t.header v.vector ∷ when (any_must_stay (holds_at j 0) present ss) 21 ∷ []))
      (record { state = with_slots s false (map (Step.overwritten t.header j v y) ss); answer = slot i }))
  unfolding says kept_arrivals answer_of guarded
  keyed-again j v y present i e =
      let p = (map-eq-some_iff (λ (l : LiveArrival). l.arrival) (first_with j t.living)).0 (first-seen j (some i) e) in
      let n : ℕ = first_of (fault t.header v.vector ∷ when (must_stay present p.0.year) 21 ∷ []) in
      rw (stays-now present (holds_at j 0) (λ u. refl), stays-first present j none_seen refl t.living, p.1)
      (go (sym (first-taken j t.living) ∙ ap found p.1) n (ap (appending_or_over full t v present) p.1 ∙ ap (λ (a : ℕ). unless n (slot a)) p.2))
    where
      there : arrival_at ws (ids t.living) i ≡ some (arrival_of tr i)
      there =
          subst (λ (o : Option ℕ). Slots (λ x. arrival_at ws (ids t.living) x ≡ some (arrival_of tr x)) (maybe_slot o)) e
          (((slot_of-asks j 0).blind t.header).slots (λ x. arrival_at ws (ids t.living) x ≡ some (arrival_of tr x)) (live_from 0 ss) (numbers-read tr))

      go : taken j t.living ≡ true → (n : ℕ) → answer_of full t (add_keyed j v y present) ≡ unless n (slot (arrival_of tr i)) →
          Taken (add_keyed j v y present) (guarded s n (record { state = with_slots s false (map (Step.overwritten t.header j v y) ss); answer = slot i }))
      go held zero a =
          changed (add_keyed j v y present) (Step.overwritten t.header j v y) false (slot i) (first_overwritten t.header j v y t.living) (rw held) (rw held) (λ x d. d)
          (ap (keep live_cell) (cells-overwritten t.header j v y none_seen refl t.living) ∙
          keep_all live_cell (cells_of none_seen (first_overwritten t.header j v y t.living)) (cells-live none_seen (first_overwritten t.header j v y t.living)))
          (rw (ids-overwritten t.header j v y t.living, there, a))
      go held (suc n) a = quiet (add_keyed j v y present) (refused (suc n)) refl refl (λ l. ap some (sym a))

  keyed-taken : (j : ℕ) (v : Item) (y present : ℕ) → Taken (add_keyed j v y present) (step room s (Step.add_keyed j v y present))
  unfolding step
  keyed-taken j v y present =
      either_way (Taken (add_keyed j v y present)) (slot_holding j 0 (live_from 0 ss)) _ _ (keyed-first j v y present) (keyed-again j v y present)

  about : (a : ℕ) → names_live t.living (key_of a) ≡ true → get_elem? ss (number_now ws a) ≡ find a (cells_in t)
  about a n = live-slot tr a n

  score-taken : (a : ℕ) (q : Query) → Taken (score a q) (step room s (Step.score (number_now ws a) q))
  unfolding step says kept_arrivals answer_of
  score-taken a q =
      quiet (score a q) (score_answer t.header q (get_elem? ss (number_now ws a))) (cond_same (accepted (score_answer t.header q (get_elem? ss (number_now ws a)))) ws)
      (cond_same (accepted (score_answer t.header q (get_elem? ss (number_now ws a)))) t)
      (λ n. score-read (arrival_at ws (ids t.living)) t.header q (get_elem? ss (number_now ws a)) ∙
      ap (λ (o : Option Slot). some (score_answer t.header q o)) (about a n))

  compact-taken : Taken compact (step room s Step.compact)
  unfolding step says kept_arrivals answer_of
  compact-taken = record { header = refl; told = refl; tracks = tracks-compacted tr; answer = λ n. refl }

  pub step-taken : (op : HistoryOp) → Taken op (step room s (op_at (number_now ws) op))
  unfolding step says kept_arrivals answer_of
  step-taken (add v y) = grown (add v y) none (unkeyed 0) v y refl refl refl refl
  step-taken (add_keyed j v y present) = keyed-taken j v y present
  step-taken (add_multi j v y) = multi-taken j v y
  step-taken (relabel j k) = relabel-taken j k
  step-taken (remove j present) = remove-taken j present
  step-taken compact = compact-taken
  step-taken (score a q) = score-taken a q
  step-taken (search q k places) = asked (search q k places) (search-asks q k places) refl refl refl
  step-taken (search_keyed q k places) = asked (search_keyed q k places) (search_keyed-asks q k places) refl refl refl
  step-taken (key_of a) = quiet (key_of a) (maybe_key (key_answer (get_elem? ss (number_now ws a)))) refl refl
      (λ n. ap (λ (o : Option Slot). some (maybe_key (key_answer o))) (about a n))
  step-taken (contains j) = asked (contains j) (contains-asks j) refl refl refl
  step-taken (slot_of j i) = asked (slot_of j i) (slot_of-asks j i) refl refl refl
  step-taken file_length = asked file_length length-asks refl refl refl
  step-taken (write places) = asked (write places) (write-asks places) refl refl refl
