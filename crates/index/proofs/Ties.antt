-- Ties in what the searches answer: proofs of specs/Ties.antt.
use mathlib.Core.Path.{◌≡◌, refl, sym, ap, subst, ◌∙◌}
use mathlib.Core.Bool.{Bool, true, false, not, cond, ◌&&◌, or-true, true≢false}
use mathlib.Core.List.Memᴰ
use mathlib.Core.List.{List, [], ◌∷◌, ◌++◌, map, append_assoc, Memᴰ}
use mathlib.Core.Option.{Option, none, some, some-injective}
use Prim.Native.Nat.{ℕ, zero, suc, ◌+◌, ◌≤◌, ◌<◌}
use native.Mathlib.Omega.{arith}
use lib.ListN.{length, get_elem?}
use lib.Dec.{T, eqb}
use lib.Ieee.{Float, binary32, eq, fits, is_nan}
use borrow.Author.Tests.{eq-eqb}
use Rattle.lists.specs.Keep.{keep, any, Each}
use Rattle.lists.proofs.Keep.{either, each-mem, each_weaken, each_append, each_keep, keep-map}
use Rattle.lists.proofs.Front.{each_map, map_each}
use Rattle.lists.proofs.Members.{each_of}
use Rattle.choose.specs.Falling.{RisesBy}
use Rattle.choose.specs.Choose.{choose}
use Rattle.choose.proofs.Choice.{choose-each}
use Rattle.choose.proofs.Ties.{rises-keep, rises-map, Only, choose-ties}
use Rattle.score.specs.Order.{order_number}
use Rattle.score.proofs.Order.{same_number, level-with-itself}
use Rattle.score.proofs.Slot.{score-fits}
use Rattle.encode.specs.declared.Header.{Header}
use Rattle.encode.specs.Coded.{Code}
use Rattle.index.specs.declared.Index.{Index}
use Rattle.index.specs.Arrays.{Arrays}
use Rattle.index.specs.State.{Slot, live, state_of}
use Rattle.index.specs.Fit.{fit}
use Rattle.index.specs.Codec.{score_by_table, score_of}
use Rattle.index.specs.Step.{Op, key_of, score, search, search_keyed, search_cascade, Query, Answer, refused, maybe_key, score_is, hits, key_hits, first_of, when, unless, Cell, live_from, Hit, hit_of, hits_of, rank, query_refusal, short_result, by_slot, by_key, searched, candidates, wide, searched_cascade, score_answer, key_answer, step}
use Rattle.index.specs.Call.{call, Result}
use Rattle.index.specs.Ties.{alike, InSlotOrder, TiesBySlot, NamesLowest, ByLowest, TiesByKey}
use Rattle.index.proofs.Kept.{first-none}
use Rattle.index.proofs.Calls.{call-misfit, call_fits}
use Rattle.index.proofs.Passed.{unless-hits, unless-keys, no_nan, scored-as}

-- ---- the numbers of the live slots rise, and each is its slot's place

from-there : (i : ℕ) (ss : List Slot) → Each (λ c. i ≤ c.number) (live_from i ss)
unfolding live_from
from-there i [] = tt
from-there i (s ∷ ss) =
    let later = each_weaken (λ (c : Cell). suc i ≤ c.number) (λ c. i ≤ c.number) (live_from (suc i) ss) (λ c l. omega arith) (from-there (suc i) ss) in
    either (Each (λ (c : Cell). i ≤ c.number)) (live s) (omega arith, later) later

live-rise : (i : ℕ) (ss : List Slot) → RisesBy (λ c. c.number) (live_from i ss)
unfolding live_from
live-rise i [] = tt
live-rise i (s ∷ ss) =
    either (RisesBy (λ (c : Cell). c.number)) (live s)
    (each_weaken (λ (c : Cell). suc i ≤ c.number) (λ c. i < c.number) (live_from (suc i) ss) (λ c l. omega arith) (from-there (suc i) ss), live-rise (suc i) ss)
    (live-rise (suc i) ss)

-- the slot of a cell stands so many places on as its number is past i
abbrev Placed : ℕ → List Slot → Cell → Type 0
Placed i ss c = (j : ℕ) → c.number ≡ i + j → get_elem? ss j ≡ some c.slot

placed : (i : ℕ) (ss : List Slot) → Each (Placed i ss) (live_from i ss)
unfolding live_from
placed i [] = tt
placed i (s ∷ ss) =
    let later : Each (Placed i (s ∷ ss)) (live_from (suc i) ss) = each-mem (Placed i (s ∷ ss)) (live_from (suc i) ss) (λ c m. next c m (each_of (Placed (suc i) ss) m (placed (suc i) ss))) in
    either (Each (Placed i (s ∷ ss))) (live s) (here, later) later
  where
    here : (j : ℕ) → i ≡ i + j → get_elem? (s ∷ ss) j ≡ some s
    here zero e = refl
    here (suc j) e = absurd (omega arith)

    next : (c : Cell) → Memᴰ c (live_from (suc i) ss) → Placed (suc i) ss c → Placed i (s ∷ ss) c
    next c m ih zero e = absurd (omega (arith, e, each_of (λ (c : Cell). suc i ≤ c.number) m (from-there (suc i) ss)))
    next c m ih (suc j) e = ih j (omega (arith, e))

abbrev There : List Slot → Cell → Type 0
There ss c = get_elem? ss c.number ≡ some c.slot

there : (ss : List Slot) → Each (There ss) (live_from 0 ss)
there ss = each_weaken (Placed 0 ss) (There ss) (live_from 0 ss) (λ c f. f c.number (omega arith)) (placed 0 ss)

-- ---- the chosen among cells in slot order

pub scores-fit : (h : Header) (q : Query) (c : Code) → T (fits binary32 (score_of h q c))
unfolding score_by_table
scores-fit h q c = score-fits _ _ _ c.first c.second

module _ (h : Header) (q : Query) (cs : List Cell) (k : ℕ) where
  abbrev found : List Hit
  found = choose rank k (hits_of h q cs)

  own_keys : (ss : List Slot) → Each (There ss) cs → Each (λ y. key_answer (get_elem? ss y.number) ≡ y.key) found
  own_keys ss at =
      choose-each rank k (hits_of h q cs) (λ y. key_answer (get_elem? ss y.number) ≡ y.key)
      (each_map (λ y. key_answer (get_elem? ss y.number) ≡ y.key) (hit_of h q) cs
      (each_weaken (There ss) (λ c. key_answer (get_elem? ss c.number) ≡ (hit_of h q c).key) cs (λ c e. ap key_answer e) at))

  module _ (passed : query_refusal h q (hits_of h q cs) ≡ 0) where
    sound : Each (λ y. is_nan y.score ≡ false) found
    sound = choose-each rank k (hits_of h q cs) (λ y. is_nan y.score ≡ false) (no_nan h q (hits_of h q cs) passed)

    own-scores : (ss : List Slot) → Each (There ss) cs → Each (λ l. score_answer h q (get_elem? ss l.0) ≡ score_is l.1) (map by_slot found)
    own-scores ss at =
        each_map (λ l. score_answer h q (get_elem? ss l.0) ≡ score_is l.1) by_slot found
        (choose-each rank k (hits_of h q cs) (λ y. score_answer h q (get_elem? ss y.number) ≡ score_is y.score)
        (each_map (λ y. score_answer h q (get_elem? ss y.number) ≡ score_is y.score) (hit_of h q) cs
        (each-mem (λ c. score_answer h q (get_elem? ss c.number) ≡ score_is (hit_of h q c).score) cs scored)))
      where
        scored : (c : Cell) → Memᴰ c cs → score_answer h q (get_elem? ss c.number) ≡ score_is (hit_of h q c).score
        scored c m =
            ap (score_answer h q) (each_of (There ss) m at) ∙
            scored-as h q (hits_of h q cs) passed c.slot
            (each_of (λ (c : Cell). is_nan (hit_of h q c).score ≡ false) m (map_each (λ (y : Hit). is_nan y.score ≡ false) (hit_of h q) cs (no_nan h q (hits_of h q cs) passed)))

  module _ (up : RisesBy (λ c. c.number) cs) (s : Float) where
    abbrev looks_equal : Hit → Bool
    looks_equal y = eq y.score s

    one_rank : Each (Only rank looks_equal (order_number s)) (hits_of h q cs)
    one_rank =
        each_map (Only rank looks_equal (order_number s)) (hit_of h q) cs
        (each-mem (λ c. Only rank looks_equal (order_number s) (hit_of h q c)) cs (λ c m e. same_number (hit_of h q c).score s (scores-fit h q c.slot.code) (subst T (sym e) tt)))

    hits-rise : RisesBy (λ y. y.number) (keep looks_equal found)
    hits-rise = choose-ties rank looks_equal (order_number s) (λ y. y.number) k (hits_of h q cs) one_rank (rises-map (λ (y : Hit). y.number) (hit_of h q) cs up)

    lines-rise : RisesBy (λ l. l.0) (alike s (map by_slot found))
    lines-rise =
        subst (RisesBy (λ (l : ℕ × Float). l.0)) (sym (keep-map by_slot (λ (l : ℕ × Float). eq l.1 s) found))
        (rises-map (λ (l : ℕ × Float). l.0) by_slot (keep looks_equal found) hits-rise)

-- ---- keys: of hits that look equal the first listed has the lowest number

abbrev FirstLowest : List Hit → Type 0
FirstLowest [] = Unit
FirstLowest (x ∷ xs) = Each (λ y. T (eq y.score x.score) → x.number ≤ y.number) xs × FirstLowest xs

kept-each : {X : Type 0} (P : X → Type 0) (p : X → Bool) (xs : List X) → Each P (keep p xs) → Each (λ x. T (p x) → P x) xs
kept-each P p [] h = tt
kept-each P p (x ∷ xs) h = go (p x) (kept-each P p xs) h
  where
    go : (b : Bool) → (Each P (keep p xs) → Each (λ y. T (p y) → P y) xs) → Each P (cond b (x ∷ keep p xs) (keep p xs)) → (T b → P x) × Each (λ y. T (p y) → P y) xs
    go true ih h = (λ t. h.0, ih h.1)
    go false ih h = (λ t. absurd t, ih h)

first-lowest : (xs : List Hit) → Each (λ y. is_nan y.score ≡ false) xs → ((s : Float) → RisesBy (λ y. y.number) (keep (λ (y : Hit). eq y.score s) xs)) → FirstLowest xs
first-lowest [] n up = tt
first-lowest (x ∷ xs) n up = (
  kept-each (λ y. x.number ≤ y.number) (λ y. eq y.score x.score) xs (above (eq x.score x.score) (level-with-itself x.score n.0) (up x.score)),
  first-lowest xs n.1 (λ s. rest (eq x.score s) (keep (λ (y : Hit). eq y.score s) xs) (up s)),
)
  where
    above : (b : Bool) → T b → RisesBy (λ y. y.number) (cond b (x ∷ keep (λ (y : Hit). eq y.score x.score) xs) (keep (λ (y : Hit). eq y.score x.score) xs)) →
        Each (λ y. x.number ≤ y.number) (keep (λ (y : Hit). eq y.score x.score) xs)
    above true t h =
        each_weaken (λ (y : Hit). x.number < y.number) (λ y. x.number ≤ y.number) (keep (λ (y : Hit). eq y.score x.score) xs) (λ y l. omega arith) h.0
    above false t h = absurd t

    rest : (b : Bool) (ys : List Hit) → RisesBy (λ (y : Hit). y.number) (cond b (x ∷ ys) ys) → RisesBy (λ (y : Hit). y.number) ys
    rest true ys h = h.1
    rest false ys h = h

-- a key of an entry that came before is among those seen
abbrev Seen : (seen : List ℕ) → Hit → Type 0
Seen seen y = (j : ℕ) → y.key ≡ some j → any (eqb j) seen ≡ true

abbrev Named : (before ys : List Hit) → Type 0
Named before ys = (seen : List ℕ) → Each (Seen seen) before → Each (NamesLowest (before ++ ys)) (by_key seen ys)

names : (before ys : List Hit) → FirstLowest ys → Named before ys
unfolding by_key any
names before [] low seen h = tt
names before (x ∷ ys) low seen h = go x.key refl (names (before ++ (x ∷ [])) ys low.1)
  where
    next : Named (before ++ (x ∷ [])) ys → (also : List ℕ) → Each (Seen also) before → Seen also x → Each (NamesLowest (before ++ (x ∷ ys))) (by_key also ys)
    next ih also h s =
        subst (λ (zs : List Hit). Each (NamesLowest zs) (by_key also ys)) (append_assoc before (x ∷ []) ys)
        (ih also (each_append (Seen also) before (x ∷ []) h (s, tt)))

    no_key : (j : ℕ) → ◌≡◌ {A = Option ℕ} none (some j) → ⊥
    no_key j e = let z : ◌≡◌ {A = ℕ} 0 1 = cc in omega arith

    own : (j : ℕ) → x.key ≡ some j → any (eqb j) seen ≡ false → NamesLowest (before ++ (x ∷ ys)) (j, x.score)
    own j e f =
        record {
          hit = x;
          listed = Memᴰ.append_right before (Memᴰ.head refl);
          of_key = e;
          scored = refl;
          lowest =
              each_append (λ y. y.key ≡ some j → T (eq y.score x.score) → x.number ≤ y.number) before (x ∷ ys)
              (each_weaken (Seen seen) (λ y. y.key ≡ some j → T (eq y.score x.score) → x.number ≤ y.number) before
              (λ y s ey t. absurd (true≢false (sym (s j ey) ∙ f))) h) (
                λ ey t. omega arith,
                each_weaken (λ y. T (eq y.score x.score) → x.number ≤ y.number)
                    (λ y. y.key ≡ some j → T (eq y.score x.score) → x.number ≤ y.number) ys (λ y l ey t. l t) low.0,
              );
        }

    more : (i j : ℕ) → any (eqb i) seen ≡ true → any (eqb i) (j ∷ seen) ≡ true
    more i j g = rw g (or-true (eqb i j))

    mine : (i j : ℕ) → i ≡ j → any (eqb i) (j ∷ seen) ≡ true
    mine i j g = rw (eq-eqb i j g)

    new : Named (before ++ (x ∷ [])) ys → (j : ℕ) → x.key ≡ some j → (b : Bool) → any (eqb j) seen ≡ b →
        Each (NamesLowest (before ++ (x ∷ ys))) (cond b (by_key seen ys) ((j, x.score) ∷ by_key (j ∷ seen) ys))
    new ih j e true f = next ih seen h (λ i d. ap (λ (n : ℕ). any (eqb n) seen) (some-injective i j (sym d ∙ e)) ∙ f)
    new ih j e false f = (
      own j e f,
      next ih (j ∷ seen) (each_weaken (Seen seen) (Seen (j ∷ seen)) before (λ y s i d. more i j (s i d)) h) (λ i d. mine i j (some-injective i j (sym d ∙ e))),
    )

    go : (o : Option ℕ) → x.key ≡ o → Named (before ++ (x ∷ [])) ys → Each (NamesLowest (before ++ (x ∷ ys)))
        (elim o [ none ↦ by_key seen ys | some k ↦ cond (any (eqb k) seen) (by_key seen ys) ((k, x.score) ∷ by_key (k ∷ seen) ys) ])
    go none e ih = next ih seen h (λ j d. absurd (no_key j (sym e ∙ d)))
    go (some j) e ih = new ih j e (any (eqb j) seen) refl

-- ---- the theorems

module _ (x : Index) (a : Arrays) (q : Query) where
  abbrev head : Header
  head = (state_of x a).header

  abbrev slots : List Slot
  slots = (state_of x a).slots

  -- what is no 13 is answered by record and arrays that fit
  answered-fits : (op : Op) (c : Answer) → (refused 13 ≡ c → ⊥) → (call x a op).answer ≡ c → fit x a ≡ true
  answered-fits op c other e = go (fit x a) refl
    where
      go : (b : Bool) → fit x a ≡ b → fit x a ≡ true
      go true f = f
      go false f = absurd (other (sym (ap (λ (r : Result). r.answer) (call-misfit x a op f)) ∙ e))

  hits-fit : (op : Op) (lines : List (ℕ × Float)) → (call x a op).answer ≡ hits lines → fit x a ≡ true
  hits-fit op lines = answered-fits op (hits lines) (λ e. let z : ◌≡◌ {A = ℕ} 0 1 = cc in omega arith)

  keys-fit : (op : Op) (lines : List (ℕ × Float)) → (call x a op).answer ≡ key_hits lines → fit x a ≡ true
  keys-fit op lines = answered-fits op (key_hits lines) (λ e. let z : ◌≡◌ {A = ℕ} 0 1 = cc in omega arith)

  module _ (f : fit x a ≡ true) where
    score-call : (i : ℕ) → (call x a (score i q)).answer ≡ score_answer head q (get_elem? slots i)
    unfolding step
    score-call i = ap (λ (r : Result). r.answer) (call_fits x a (score i q) f)

    key-call : (i : ℕ) → (call x a (key_of i)).answer ≡ maybe_key (key_answer (get_elem? slots i))
    unfolding step
    key-call i = ap (λ (r : Result). r.answer) (call_fits x a (key_of i) f)

    -- by the cells that are scored
    by-slot : (cs : List Cell) (k n : ℕ) (lines : List (ℕ × Float)) → RisesBy (λ c. c.number) cs → Each (There slots) cs →
        (n ≡ 0 → query_refusal head q (hits_of head q cs) ≡ 0) → unless n (hits (map by_slot (found head q cs k))) ≡ hits lines → InSlotOrder x a q lines
    by-slot cs k n lines up at passed e =
        let accepted = unless-hits n (map by_slot (found head q cs k)) lines e in
        let same : map by_slot (found head q cs k) ≡ lines = accepted.1 in
        record {
          rise = λ s. subst (λ (ls : List (ℕ × Float)). RisesBy (λ (l : ℕ × Float). l.0) (alike s ls)) same (lines-rise head q cs k up s);
          own =
              subst (Each (λ (l : ℕ × Float). (call x a (score l.0 q)).answer ≡ score_is l.1)) same
              (each_weaken (λ (l : ℕ × Float). score_answer head q (get_elem? slots l.0) ≡ score_is l.1) (λ l. (call x a (score l.0 q)).answer ≡ score_is l.1)
              (map by_slot (found head q cs k)) (λ l g. score-call l.0 ∙ g) (own-scores head q cs k (passed accepted.0) slots at));
        }

    abbrev cells : List Cell
    cells = live_from 0 slots

    search-ties : (k places : ℕ) (lines : List (ℕ × Float)) → (call x a (search q k places)).answer ≡ hits lines → InSlotOrder x a q lines
    unfolding step searched
    search-ties k places lines e =
        by-slot cells k (first_of (short_result k (length cells) places ∷ query_refusal head q (hits_of head q cells) ∷ [])) lines (live-rise 0 slots) (there slots)
        (λ z. (first-none (query_refusal head q (hits_of head q cells)) [] (first-none (short_result k (length cells) places) _ z).1).0)
        (sym (ap (λ (r : Result). r.answer) (call_fits x a (search q k places) f)) ∙ e)

    cascade-ties : (k r places : ℕ) (lines : List (ℕ × Float)) → (call x a (search_cascade q k r places)).answer ≡ hits lines → InSlotOrder x a q lines
    unfolding step searched_cascade candidates
    cascade-ties k r places lines e =
        let cs : List Cell = candidates head q (wide k r (length cells)) cells in
        let eleven : ℕ = when (not ((state_of x a).cascade && eqb head.bits 4)) 11 in
        by-slot cs k (first_of (short_result k (length cells) places ∷ eleven ∷ query_refusal head q (hits_of head q cs) ∷ [])) lines
        (rises-keep (λ (c : Cell). c.number) _ cells (live-rise 0 slots)) (each_keep (There slots) _ cells (there slots))
        (λ z. (first-none (query_refusal head q (hits_of head q cs)) [] (first-none eleven _ (first-none (short_result k (length cells) places) _ z).1).1).0)
        (sym (ap (λ (r : Result). r.answer) (call_fits x a (search_cascade q k r places) f)) ∙ e)

    keyed-ties : (k places : ℕ) (lines : List (ℕ × Float)) → (call x a (search_keyed q k places)).answer ≡ key_hits lines → ByLowest x a q k places lines
    unfolding step searched
    keyed-ties k places lines e =
        let n : ℕ = first_of (short_result k (length cells) places ∷ query_refusal head q (hits_of head q cells) ∷ []) in
        let ys : List Hit = found head q cells k in
        let accepted = unless-keys n (by_key [] ys) lines (sym (ap (λ (r : Result). r.answer) (call_fits x a (search_keyed q k places) f)) ∙ e) in
        let passed : query_refusal head q (hits_of head q cells) ≡ 0 =
        (first-none (query_refusal head q (hits_of head q cells)) [] (first-none (short_result k (length cells) places) _ accepted.0).1).0 in
        record {
          found = ys;
          searched = ap (λ (r : Result). r.answer) (call_fits x a (search q k places) f) ∙ ap (λ (m : ℕ). unless m (hits (map by_slot ys))) accepted.0;
          keys =
              each_weaken (λ y. key_answer (get_elem? slots y.number) ≡ y.key) (λ y. (call x a (key_of y.number)).answer ≡ maybe_key y.key) ys
              (λ y g. key-call y.number ∙ ap maybe_key g) (own_keys head q cells k slots (there slots));
          named = subst (Each (NamesLowest ys)) accepted.1 (names [] ys (first-lowest ys (sound head q cells k passed) (hits-rise head q cells k (live-rise 0 slots))) [] tt);
        }

pub ties-by-slot : TiesBySlot
ties-by-slot x a none q k places lines e = search-ties x a q (hits-fit x a q (search q k places) lines e) k places lines e
ties-by-slot x a (some r) q k places lines e = cascade-ties x a q (hits-fit x a q (search_cascade q k r places) lines e) k r places lines e

pub ties-by-key : TiesByKey
ties-by-key x a q k places lines e = keyed-ties x a q (keys-fit x a q (search_keyed q k places) lines e) k places lines e
