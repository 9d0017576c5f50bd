-- Demand 3 of the mission, for new and read indexes, over the record and the lent arrays, by the very `call` that the contracts cite.
--
-- In the words of document 01, "Histories":
--   history       a list, of any length, of calls (`HistoryOp` of the index), refused ones included. "Each call gets the record and the index's arrays
--                 as the one before left them"; "Each call brings all else that it takes".
--   arrival       "a read index's slots arrive as 0, 1, 2 in slot order; a new index has none; each accepted append is the next, an overwrite none".
--   live arrival  "live from its arrival until a whole-key removal takes it". Which these are, with key, code and year, is said by the start (`begin`: none,
--                 or what was read) and from then on by the calls alone: `Told` and `says` below look at no array. That the arrays agree is law `Faithful`.
--   number        "how many lower arrivals were not already dead at the last compaction, all of them if there was none": `number_now`.
--   legal call    it "names live slots only, each by arrival": `names_live`. No relabelling is ruled out: the mission's proviso always holds (`Faithful`,
--                 field `held`).
-- The claims are `SameAnswers` and `SearchesSound`; laws beside them stand at the end. docs/HISTORIES.md leads through this file.
use Rattle.std.specs.Prelude.{◌≡◌, Bool, true, false, not, cond, ◌&&◌, ◌||◌, ℕ, suc, min, max, ◌<◌, ◌≤◌, length, drop, ltb, eqb, Float}
use mathlib.Core.List.{List, [], ◌∷◌, ◌++◌, map, Memᴰ}
use Rattle.std.proofs.Math.Option
use Rattle.std.proofs.Math.Option.{Option, none, some}
use Rattle.std.proofs.Math.ListN.{get_elem?}
use Rattle.lists.specs.Lists.{tab, below}
use Rattle.lists.specs.Keep.{keep, count, Each, any}
use Rattle.choose.specs.Falling.{Falls, RisesBy}
use Rattle.score.specs.Order.{order_number}
use Rattle.encode.specs.declared.Header.{Header}
use Rattle.encode.specs.Coded.{Code, fault, no_spare, spare_of}
use Rattle.index.specs.declared.Index.{Index}
use Rattle.index.specs.Verdict.{Verdict, granted}
use Rattle.index.specs.Arrays.{Arrays}
use Rattle.index.specs.State.{Slot, live, header_of, state_of}
use Rattle.index.specs.Codec.{encoded, score_of}
use Rattle.index.specs.Fit.{none_from, fit}
use Rattle.index.specs.File.{file_of}
pub use Rattle.index.specs.Step.{accepted}
use Rattle.index.specs.Step.{Item, Query, Answer, refused, done, flag, slot, maybe_slot, maybe_key, score_is, hits, key_hits, size, bytes, first_of, when, unless, Cell, live_from, must_stay, key_of_mark, Hit, by_slot, by_key, rising, set_bits}
use Rattle.index.specs.Call.{Result, call}
use Rattle.index.specs.Ties.{alike}
use Rattle.index.specs.OneTrait.{one_trait, trait_score_of}
use Rattle.index.specs.Answers.{result_of, how_many, first_entries, found, found_keyed, wrote, LaterKept}
use Rattle.index.specs.Make.{new_header, begun, make}
use Rattle.index.specs.Read.{count_in, header_in, key_from, entries_in, year_in, slot_in, read_into}
use Rattle.index.specs.Years.{present_told}
use Rattle.index.specs.History.{HistoryOp, add, add_keyed, add_multi, relabel, remove, compact, score, search, search_keyed, key_of, contains, slot_of, file_length, write, op_at}

abbrev pub History : Type 0
History = List HistoryOp

-- ---- what the calls alone say

-- a live arrival, with the key, the code and the year that the calls gave it
pub record LiveArrival : Type 0 where
  pub arrival : ℕ
  pub key : Option ℕ
  pub code : Code
  pub year : ℕ

-- the header of the start, the next arrival, and the live arrivals in order of arrival
pub record Told : Type 0 where
  pub header : Header
  pub next : ℕ
  pub living : List LiveArrival

abbrev pub with_living : Told → List LiveArrival → Told
with_living t ls = record { header = t.header; next = t.next; living = ls }

abbrev pub is_key : (key : ℕ) → Option ℕ → Bool
is_key j none = false
is_key j (some k) = eqb k j

abbrev pub carries : (key : ℕ) → LiveArrival → Bool
carries j l = is_key j l.key

-- whether a live arrival has the key
abbrev pub taken : (key : ℕ) → List LiveArrival → Bool
taken j ls = any (carries j) ls

-- the arrival that an append adds: "each accepted append is the next"; "Spare bits are 0 after an append"; 02, Req 06: "Adding states a year"
abbrev pub newcomer : Told → (key : Option ℕ) → Item → (year : ℕ) → LiveArrival
newcomer t key v y = record { arrival = t.next; key = key; code = encoded t.header no_spare v; year = y }

-- an accepted append
abbrev pub arrived : Told → (key : Option ℕ) → Item → (year : ℕ) → Told
arrived t key v y = record { header = t.header; next = suc t.next; living = t.living ++ (newcomer t key v y ∷ []) }

-- an overwrite goes to the lowest live arrival of the key and "keeps" its spare bits; 02, Req 06: "an overwrite sets the new one", the year
abbrev pub coded_anew : Header → Item → (year : ℕ) → LiveArrival → LiveArrival
coded_anew h v y l = record { arrival = l.arrival; key = l.key; code = encoded h (spare_of h l.code) v; year = y }

abbrev pub first_overwritten : Header → (key : ℕ) → Item → (year : ℕ) → List LiveArrival → List LiveArrival
first_overwritten h j v y [] = []
first_overwritten h j v y (l ∷ ls) = cond (carries j l) (coded_anew h v y l ∷ ls) (l ∷ first_overwritten h j v y ls)

-- relabelling an old key that is held, to itself or to a key that is not held
abbrev pub renames : (old new : ℕ) → List LiveArrival → Bool
renames j k ls = taken j ls && (eqb j k || not (taken k ls))

abbrev pub renamed : (old new : ℕ) → LiveArrival → LiveArrival
renamed j k l = record { arrival = l.arrival; key = cond (carries j l) (some k) l.key; code = l.code; year = l.year }

-- what an accepted call adds to what is told
unfoldable pub says : HistoryOp → Told → Told
says (add v y) t = arrived t none v y
says (add_keyed j v y present) t = cond (taken j t.living) (with_living t (first_overwritten t.header j v y t.living)) (arrived t (some j) v y)
says (add_multi j v y) t = arrived t (some j) v y
says (relabel j k) t = with_living t (cond (renames j k t.living) (map (renamed j k) t.living) t.living)
says (remove j present) t = with_living t (keep (λ l. not (carries j l)) t.living)
says compact t = t
says (score a q) t = t
says (search q k places) t = t
says (search_keyed q k places) t = t
says (key_of a) t = t
says (contains j) t = t
says (slot_of j i) t = t
says file_length t = t
says (write places) t = t

abbrev pub is_append : HistoryOp → List LiveArrival → Bool
is_append (add v y) ls = true
is_append (add_keyed j v y present) ls = not (taken j ls)
is_append (add_multi j v y) ls = true
is_append (relabel j k) ls = false
is_append (remove j present) ls = false
is_append compact ls = false
is_append (score a q) ls = false
is_append (search q k places) ls = false
is_append (search_keyed q k places) ls = false
is_append (key_of a) ls = false
is_append (contains j) ls = false
is_append (slot_of j i) ls = false
is_append file_length ls = false
is_append (write places) ls = false

abbrev pub is_compact : HistoryOp → Bool
is_compact (add v y) = false
is_compact (add_keyed j v y present) = false
is_compact (add_multi j v y) = false
is_compact (relabel j k) = false
is_compact (remove j present) = false
is_compact compact = true
is_compact (score a q) = false
is_compact (search q k places) = false
is_compact (search_keyed q k places) = false
is_compact (key_of a) = false
is_compact (contains j) = false
is_compact (slot_of j i) = false
is_compact file_length = false
is_compact (write places) = false

abbrev pub ids : List LiveArrival → List ℕ
ids ls = map (λ l. l.arrival) ls

-- The arrivals that were "not already dead at the last compaction", in order of arrival, after an accepted call: a compaction leaves the live ones, an
-- append is one more.
unfoldable pub kept_arrivals : HistoryOp → Told → List ℕ → List ℕ
kept_arrivals op t ws = cond (is_compact op) (ids t.living) (cond (is_append op t.living) (ws ++ (t.next ∷ [])) ws)

-- "how many lower arrivals were not already dead at the last compaction"
abbrev pub number_now : (arrivals : List ℕ) → (arrival : ℕ) → ℕ
number_now ws a = count (λ b. ltb b a) ws

-- "the live arrival that then has this number", of these live ones
abbrev pub arrival_at : (arrivals live : List ℕ) → (number_now : ℕ) → Option ℕ
arrival_at ws [] i = none
arrival_at ws (a ∷ more) i = cond (eqb (number_now ws a) i) (some a) (arrival_at ws more i)

-- ---- answers, "slots read by arrival"

abbrev pub hit_and : Option (ℕ × Float) → Option (List (ℕ × Float)) → Option (List (ℕ × Float))
hit_and none o = none
hit_and (some x) o = Option.map (λ xs. x ∷ xs) o

abbrev pub hits_read : (ℕ → Option ℕ) → List (ℕ × Float) → Option (List (ℕ × Float))
hits_read f [] = some []
hits_read f (x ∷ xs) = hit_and (Option.map (λ a. (a, x.1)) (f x.0)) (hits_read f xs)

-- An answer with each slot's number made an arrival by f; none where f has no arrival for a number. A keyed search answers keys, and "slots in a file
-- stay as written".
abbrev pub read : (ℕ → Option ℕ) → Answer → Option Answer
read f (refused n) = some (refused n)
read f done = some done
read f (flag b) = some (flag b)
read f (slot i) = Option.map slot (f i)
read f (maybe_slot none) = some (maybe_slot none)
read f (maybe_slot (some i)) = Option.map (λ a. maybe_slot (some a)) (f i)
read f (maybe_key o) = some (maybe_key o)
read f (score_is x) = some (score_is x)
read f (hits xs) = Option.map hits (hits_read f xs)
read f (key_hits xs) = some (key_hits xs)
read f (size n) = some (size n)
read f (bytes bs) = some (bytes bs)

-- ---- runs

-- a run between two calls: the record, the lent arrays, the arrivals that were not already dead at the last compaction, and what the calls say
pub record Run : Type 0 where
  pub index : Index
  pub arrays : Arrays
  pub arrivals : List ℕ
  pub told : Told

-- a call on the run: "handed the slot's number at that moment"
unfoldable pub called : Run → HistoryOp → Result
called r op = call r.index r.arrays (op_at (number_now r.arrivals) op)

-- the run after the call: a refused one tells nothing
unfoldable pub advance : Run → HistoryOp → Run
advance r op =
    let o = called r op in
    record {
      index = o.index;
      arrays = o.arrays;
      arrivals = cond (accepted o.answer) (kept_arrivals op r.told r.arrivals) r.arrivals;
      told = cond (accepted o.answer) (says op r.told) r.told;
    }

-- a call of a history, with the run that it comes to
pub record Moment : Type 0 where
  pub before : Run
  pub op : HistoryOp

abbrev pub moments : Run → History → List Moment
moments r [] = []
moments r (op ∷ h) = record { before = r; op = op } ∷ moments (advance r op) h

abbrev pub after : Run → History → Run
after r [] = r
after r (op ∷ h) = after (advance r op) h

abbrev pub accepts : Moment → Bool
accepts m = accepted (called m.before m.op).answer

-- "the live arrival that then has this number", then being after the call
abbrev pub arrival_then : Moment → (number : ℕ) → Option ℕ
arrival_then m = let r = advance m.before m.op in arrival_at r.arrivals (ids r.told.living)

-- its answer, a slot in it "read back as the live arrival that then has this number"
unfoldable pub answer : Moment → Option Answer
answer m = read (arrival_then m) (called m.before m.op).answer

-- the list "once compactions are struck out", and each other call
abbrev pub struck : History → History
struck h = keep (λ op. not (is_compact op)) h

abbrev pub others : Run → History → List Moment
others r h = keep (λ m. not (is_compact m.op)) (moments r h)

-- ---- starts

-- the three calls that make an index
pub data Making : Type 0 where
  new with_residual : (dim seed : ℕ) → Making
  with_working_dim : (dim working seed : ℕ) → Making

abbrev pub made_header : Making → Header
made_header (new dim seed) = new_header dim dim seed false
made_header (with_residual dim seed) = new_header dim dim seed true
made_header (with_working_dim dim working seed) = new_header dim working seed false

-- The record x and the arrays a of a start: accepted calls, over any arrays. "a new index is just made, its width set or left as made; a read one comes from an
-- accepted reading".
pub data Start (x : Index) (a : Arrays) : Type 0 where
  as_made : (m : Making) (b : Arrays) → make (made_header m) b ≡ begun (granted x) a → Start x a
  with_width : (m : Making) (b : Arrays) (y : Index) (c : Arrays) (width : ℕ) → make (made_header m) b ≡ begun (granted y) c → call y c (set_bits width) ≡
      result_of x a done → Start x a
  as_read : (file : List ℕ) (b : Arrays) → read_into b file ≡ begun (granted x) a → Start x a

abbrev pub live_arrival : Cell → LiveArrival
live_arrival c = record { arrival = c.number; key = key_of_mark c.slot.mark; code = c.slot.code; year = c.slot.year }

-- "a read index's slots arrive as 0, 1, 2 in slot order; a new index has none". What was read is what the file says, whatever the arrays held: laws
-- `AllArrive` and `ToldAsFiled`.
unfoldable pub begin : Index → Arrays → Run
begin x a =
    record {
      index = x;
      arrays = a;
      arrivals = tab (λ i. i) x.n;
      told = record { header = header_of x; next = x.n; living = map live_arrival (live_from 0 (state_of x a).slots) };
    }

-- ---- legal histories

abbrev pub lives : List LiveArrival → (arrival : ℕ) → Bool
lives ls a = any (eqb a) (ids ls)

-- "It names live slots only, each by arrival"
abbrev pub names_live : List LiveArrival → HistoryOp → Bool
names_live ls (add v y) = true
names_live ls (add_keyed j v y present) = true
names_live ls (add_multi j v y) = true
names_live ls (relabel j k) = true
names_live ls (remove j present) = true
names_live ls compact = true
names_live ls (score a q) = lives ls a
names_live ls (search q k places) = true
names_live ls (search_keyed q k places) = true
names_live ls (key_of a) = lives ls a
names_live ls (contains j) = true
names_live ls (slot_of j i) = true
names_live ls file_length = true
names_live ls (write places) = true

abbrev pub Legal : Run → History → Type 0
Legal r h = Each (λ m. names_live m.before.told.living m.op ≡ true) (moments r h)

-- ---- claim 1

-- "For every two histories from one new (its width set) or read index that are the same list once compactions are struck out, no other call being
-- accepted in one and refused in the other: each other call gives the same answer or refusal number in both, alike in score bits, order of lists, key
-- answers and file bytes, slots read by arrival."
abbrev pub SameAnswers : Type 0
SameAnswers =
    (x : Index) (a : Arrays) → Start x a →  -- from one new (its width set) or read index
    (h₁ h₂ : History) → Legal (begin x a) h₁ → Legal (begin x a) h₂ →
    struck h₁ ≡ struck h₂ →  -- the same list once compactions are struck out
    map accepts (others (begin x a) h₁) ≡ map accepts (others (begin x a) h₂) →  -- no other call being accepted in one and refused in the other
    map answer (others (begin x a) h₁) ≡ map answer (others (begin x a) h₂)  -- each other call gives the same answer or refusal number in both

-- ---- claim 2

-- each live arrival with "the score which scoring as above gives for the query and the slot"
abbrev pub scores : Run → Query → List (ℕ × Float)
scores r q = map (λ l. (l.arrival, score_of r.told.header q l.code)) r.told.living

-- 02, Req 05: the same by its sentence, for an index of padded size 1 and width 4
abbrev pub trait_scores : Run → Query → List (ℕ × Float)
trait_scores r q = map (λ l. (l.arrival, trait_score_of r.told.header q l.code)) r.told.living

abbrev pub order_of : ℕ × Float → ℕ
order_of x = order_number x.1

abbrev pub times : (arrival : ℕ) → List (ℕ × Float) → ℕ
times a xs = count (λ x. eqb x.0 a) xs

pub record ListsBest (m : Moment) (q : Query) (k : ℕ) : Type 0 where
  pub list : List (ℕ × Float)
  pub answered : answer m ≡ some (hits list)
  -- "lists exactly min(max(k,1), live) slots"
  pub exactly : length list ≡ min (max k 1) (length m.before.told.living)
  -- "distinct"
  pub distinct : (a : ℕ) → times a list ≤ 1
  -- "and live"; "the list carries these scores"
  pub are_live : Each (λ x. Memᴰ x (scores m.before q)) list
  -- 02, Req 05: "the query entry .. times its centroid, times the scale; the residual stage likewise, and the two are added"
  pub traits : one_trait m.before.told.header ≡ true → scores m.before q ≡ trait_scores m.before q
  -- these are the scores that the call `score` gives of these arrivals at that moment
  pub as_scored : Each (λ x. answer (record { before = m.before; op = score x.0 q }) ≡ some (score_is x.1)) list
  -- "order numbers never rising"
  pub falls : Falls order_of list
  -- 02, Req 04: "two equal looking lines should then follow slot order"; both zeros look equal
  pub ties : (s : Float) → RisesBy (λ x. x.0) (alike s list)
  -- "and every other live slot's order number is at most that of each listed one"
  pub at_most : (x : ℕ × Float) → Memᴰ x (scores m.before q) → times x.0 list ≡ 0 → Each (λ y. order_of x ≤ order_of y) list

-- "And in every such history each accepted search lists .."
abbrev pub SearchesSound : Type 0
SearchesSound =
    (x : Index) (a : Arrays) → Start x a → (h : History) → Legal (begin x a) h →
    Each (λ m. (q : Query) (k places : ℕ) → m.op ≡ search q k places → accepts m ≡ true → ListsBest m q k) (moments (begin x a) h)

-- ---- laws beside the claims: starts

-- "a read index's slots arrive as 0, 1, 2 in slot order; a new index has none": every slot in use of a start is a live arrival
abbrev pub AllArrive : Type 0
AllArrive = (x : Index) (a : Arrays) → Start x a → ids (begin x a).told.living ≡ below x.n

-- what a file tells: its header, and each of its slots as a live arrival, with the key, the code and the year that it says
abbrev pub filed_arrival : (file : List ℕ) → (slot : ℕ) → LiveArrival
filed_arrival file i = record { arrival = i; key = key_from (entries_in file) i; code = (slot_in file i).code; year = year_in file i }

abbrev pub told_in : (file : List ℕ) → Told
told_in file = record { header = header_in file; next = count_in file; living = tab (filed_arrival file) (count_in file) }

-- what is told at a read start is what the file tells
abbrev pub ToldAsFiled : Type 0
ToldAsFiled = (file : List ℕ) (b : Arrays) (x : Index) (a : Arrays) → read_into b file ≡ begun (granted x) a → (begin x a).told ≡ told_in file

-- ---- laws beside the claims: along a run

-- the live slots of the arrays, the first slot being that of the first arrival of the list
abbrev pub live_by : (arrivals : List ℕ) → List Slot → List Cell
live_by [] ss = []
live_by (a ∷ ws) [] = []
live_by (a ∷ ws) (s ∷ ss) = cond (live s) (record { number = a; slot = s } ∷ live_by ws ss) (live_by ws ss)

abbrev pub slots_of : Run → List Slot
slots_of r = (state_of r.index r.arrays).slots

pub record Faithful (r : Run) : Type 0 where
  -- 13 never comes from the index: no call finds a misfit
  pub fits : fit r.index r.arrays ≡ true
  -- 02, Req 02: no bit is set at or above the slots in use, in any lent word (a part of `fits`)
  pub clear : none_from r.index.n r.arrays.alive ≡ true
  -- no call changes the header
  pub header : header_of r.index ≡ r.told.header
  -- the arrivals not already dead at the last compaction are those of the slots in use, and the number that is handed for a live arrival is its place among them
  pub in_use : length r.arrivals ≡ r.index.n
  pub numbers : Each (λ a. get_elem? r.arrivals (number_now r.arrivals a) ≡ some a) (ids r.told.living)
  -- live marks, keys, codes and years of the arrays are as the calls say
  pub marks : map live_arrival (live_by r.arrivals (slots_of r)) ≡ r.told.living
  pub live : r.index.live ≡ length r.told.living
  -- each key's held slots are in rising order: the mission's proviso on relabelling always holds
  pub held : rising (λ k. 0) (slots_of r) ≡ slots_of r

abbrev pub AlwaysFaithful : Type 0
AlwaysFaithful = (x : Index) (a : Arrays) → Start x a → (h : History) → Faithful (after (begin x a) h)

-- each slot in an answer is the number of a live arrival
abbrev pub AlwaysRead : Type 0
AlwaysRead =
    (x : Index) (a : Arrays) → Start x a → (h : History) → Legal (begin x a) h → Each (λ m. (b : Answer) × (answer m ≡ some b)) (moments (begin x a) h)

-- an append that is accepted in one history and refused in the other for want of room: 8
pub record RefusedFull (m n : Moment) : Type 0 where
  pub append : is_append m.op m.before.told.living ≡ true
  pub refusal : answer n ≡ some (refused 8)

-- where two lists of calls first part in acceptance
abbrev pub PartsFull : List Moment → List Moment → Type 0
PartsFull [] ns = Unit
PartsFull (m ∷ ms) [] = Unit
PartsFull (m ∷ ms) (n ∷ ns) =
    (accepts m ≡ true → accepts n ≡ false → RefusedFull m n) × (accepts m ≡ false → accepts n ≡ true → RefusedFull n m) × (accepts m ≡ accepts n → PartsFull ms ns)

abbrev pub PartAtRoomOnly : Type 0
PartAtRoomOnly =
    (x : Index) (a : Arrays) → Start x a → (h₁ h₂ : History) → Legal (begin x a) h₁ → Legal (begin x a) h₂ → struck h₁ ≡ struck h₂ →
    PartsFull (others (begin x a) h₁) (others (begin x a) h₂)

-- ---- laws beside the claims: answers, by what is told

-- a call at a run
abbrev pub moment : Run → HistoryOp → Moment
moment r op = record { before = r; op = op }

-- the live arrivals of the key, in order of arrival: the order in which it holds its slots
abbrev pub holders : (key : ℕ) → List LiveArrival → List ℕ
holders j ls = ids (keep (carries j) ls)

-- the first of them, which `add_keyed` overwrites
abbrev pub first_with : (key : ℕ) → List LiveArrival → Option LiveArrival
first_with j ls = get_elem? (keep (carries j) ls) 0

-- 02, Req 06: "Whole-key removal tests every slot of the key": whether one must stay, at the present year that the call is told
abbrev pub one_stays : (key present : ℕ) → List LiveArrival → Bool
one_stays j present ls = any (λ l. carries j l && must_stay present l.year) ls

-- "Key questions are all calls that only ask for a slot's key or for slots of a key"; "Relabel and removal answer yes or no"
pub record AnswersKeys (r : Run) : Type 0 where
  -- `key_of` gives the key that the calls gave, `contains_key` says whether one has the key, `slot_at` the i-th that has it
  pub keys : Each (λ l. answer (moment r (key_of l.arrival)) ≡ some (maybe_key l.key)) r.told.living
  pub contained : (j : ℕ) → answer (moment r (contains j)) ≡ some (flag (taken j r.told.living))
  pub held : (j i : ℕ) → answer (moment r (slot_of j i)) ≡ some (maybe_slot (get_elem? (holders j r.told.living) i))
  -- yes where the calls tell of a change
  pub relabelled : (j k : ℕ) → answer (moment r (relabel j k)) ≡ some (flag (renames j k r.told.living))
  -- 21 where a live arrival of the key must stay; else yes where one has the key, no where none has
  pub removed : (j present : ℕ) →
      answer (moment r (remove j present)) ≡ some (cond (one_stays j present r.told.living) (refused 21) (flag (taken j r.told.living)))

abbrev pub AlwaysAnswersKeys : Type 0
AlwaysAnswersKeys = (x : Index) (a : Arrays) → Start x a → (h : History) → AnswersKeys (after (begin x a) h)

-- an accepted add answers the arrival that stores its vector: "each accepted append is the next"; `add_keyed` on a held key "overwrites the first held"
pub record AnswersAdds (r : Run) : Type 0 where
  pub appended : (op : HistoryOp) → is_append op r.told.living ≡ true → accepts (moment r op) ≡ true → answer (moment r op) ≡ some (slot r.told.next)
  -- 1, 2, 3, then 21 where the first held must stay: "it comes after every other test of that call"
  pub overwritten : (j : ℕ) (v : Item) (y present : ℕ) (l : LiveArrival) → first_with j r.told.living ≡ some l →
      answer (moment r (add_keyed j v y present)) ≡
      some (unless (first_of (fault r.told.header v.vector ∷ when (must_stay present l.year) 21 ∷ [])) (slot l.arrival))

abbrev pub AlwaysAnswersAdds : Type 0
AlwaysAnswersAdds = (x : Index) (a : Arrays) → Start x a → (h : History) → AnswersAdds (after (begin x a) h)

-- the keyed list of a list of hits: each with the key of its arrival, `by_key` "drops unkeyed hits and repeats"
pub record KeyedList (living : List LiveArrival) (list keyed : List (ℕ × Float)) : Type 0 where
  pub chosen : List Hit
  pub listed : map by_slot chosen ≡ list
  pub keys : Each (λ x. Memᴰ {A = ℕ × Option ℕ} (x.number, x.key) (map (λ l. (l.arrival, l.key)) living)) chosen
  pub dropped : by_key [] chosen ≡ keyed

pub record AnswersScores (r : Run) : Type 0 where
  -- an accepted score is that of the code which the calls gave the arrival
  pub scored : (q : Query) → Each (λ l. accepts (moment r (score l.arrival q)) ≡ true →
      answer (moment r (score l.arrival q)) ≡ some (score_is (score_of r.told.header q l.code))) r.told.living
  -- a keyed search answers as the search by slot would at that moment: the keys of its list, or its refusal
  pub listed : (q : Query) (k places : ℕ) (list : List (ℕ × Float)) → answer (moment r (search q k places)) ≡ some (hits list) →
      (keyed : List (ℕ × Float)) × (answer (moment r (search_keyed q k places)) ≡ some (key_hits keyed)) × KeyedList r.told.living list keyed
  pub turned_down : (q : Query) (k places n : ℕ) → answer (moment r (search q k places)) ≡ some (refused n) →
      answer (moment r (search_keyed q k places)) ≡ some (refused n)

abbrev pub AlwaysAnswersScores : Type 0
AlwaysAnswersScores = (x : Index) (a : Arrays) → Start x a → (h : History) → AnswersScores (after (begin x a) h)

-- the file of the live arrivals as the calls tell of them: "Only live slots are written, numbered from 0 in slot order, in the key entries too"
abbrev pub file_of_living : Told → List ℕ
file_of_living t = file_of t.header (map (λ l. record { code = l.code; key = l.key; year = l.year }) t.living)

pub record Files (r : Run) : Type 0 where
  pub sized : answer (moment r file_length) ≡ some (size (length (file_of_living r.told)))
  pub written : (places : ℕ) → accepts (moment r (write places)) ≡ true → answer (moment r (write places)) ≡ some (bytes (file_of_living r.told))

abbrev pub AlwaysFiles : Type 0
AlwaysFiles = (x : Index) (a : Arrays) → Start x a → (h : History) → Files (after (begin x a) h)

-- ---- laws beside the claims: years, 02, Req 06

-- the present year that a call is told, whichever slots it names
abbrev pub told_present : HistoryOp → Option ℕ
told_present op = present_told (op_at (λ a. a) op)

-- no call of the history is told a present year that reaches this year
abbrev pub Unreached : (year : ℕ) → History → Type 0
Unreached y h = Each (λ op. (present : ℕ) → told_present op ≡ some present → present < y) h

-- The live arrival l stands among these too, with its code and its year. A relabelling may have given it another key.
pub record LivesOn (l : LiveArrival) (ls : List LiveArrival) : Type 0 where
  pub same : LiveArrival
  pub lives : Memᴰ same ls
  pub arrival : same.arrival ≡ l.arrival
  pub code : same.code ≡ l.code
  pub year : same.year ≡ l.year

-- What its year buys the live arrival l of the run r, whatever calls follow, refused ones among them. Of year 1, "no duty", nothing is said.
pub record KeptInTime (r : Run) (l : LiveArrival) : Type 0 where
  -- "0 is kept for good"
  pub for_good : l.year ≡ 0 → (h : History) → LivesOn l (after r h).told.living
  -- "any other the first year in which it may go"
  pub in_time : 1 < l.year → (h : History) → Unreached l.year h → LivesOn l (after r h).told.living

-- Each live arrival is kept in time: one that a call adds or overwrites from that call on, with the code and the year that the call gives it, and any from any later
-- moment. It is said of what is told; that live marks, codes and years of the arrays are as they are told is `Faithful.marks`.
pub record KeepsYears (r : Run) : Type 0 where
  pub living : Each (KeptInTime r) r.told.living
  pub added : (v : Item) (y : ℕ) → accepts (moment r (add v y)) ≡ true → KeptInTime (advance r (add v y)) (newcomer r.told none v y)
  pub added_keyed : (j : ℕ) (v : Item) (y present : ℕ) → taken j r.told.living ≡ false → accepts (moment r (add_keyed j v y present)) ≡ true →
      KeptInTime (advance r (add_keyed j v y present)) (newcomer r.told (some j) v y)
  pub added_multi : (j : ℕ) (v : Item) (y : ℕ) → accepts (moment r (add_multi j v y)) ≡ true →
      KeptInTime (advance r (add_multi j v y)) (newcomer r.told (some j) v y)
  pub overwritten : (j : ℕ) (v : Item) (y present : ℕ) (l : LiveArrival) → first_with j r.told.living ≡ some l →
      accepts (moment r (add_keyed j v y present)) ≡ true →
      KeptInTime (advance r (add_keyed j v y present)) (coded_anew r.told.header v y l)

abbrev pub AlwaysKeepsYears : Type 0
AlwaysKeepsYears = (x : Index) (a : Arrays) → Start x a → (h : History) → KeepsYears (after (begin x a) h)

-- ---- laws beside the claims: what lent slices hold

-- What a search may hand back, and leave in the slices that it was lent, by its contract: `shown` is `found`, and `found_keyed` for a keyed search. A slice keeps its length.
pub record Leaves (shown : Verdict ℕ → List ℕ → List Float → Answer) (m : Moment) (numbers : List ℕ) (scores : List Float) : Type 0 where
  pub handed : Verdict ℕ
  pub numbers_after : List ℕ
  pub scores_after : List Float
  pub answered : shown handed numbers_after scores_after ≡ (called m.before m.op).answer
  pub kept : LaterKept (how_many handed) numbers numbers_after × LaterKept (how_many handed) scores scores_after
  pub sized : (length numbers_after ≡ length numbers) × (length scores_after ≡ length scores)

-- and a writing in the file that it was lent
pub record Writes (m : Moment) (file : List ℕ) : Type 0 where
  pub handed : Verdict ℕ
  pub file_after : List ℕ
  pub answered : wrote handed file_after ≡ (called m.before m.op).answer
  pub kept : LaterKept (how_many handed) file file_after
  pub sized : length file_after ≡ length file

-- of a search by slot: the arrivals that it lists in the first places, and what stands in the later ones
module _ {m : Moment} {numbers : List ℕ} {scores : List Float} (p : Leaves found m numbers scores) where
  abbrev pub listed_in : List (Option ℕ)
  listed_in = map (arrival_then m) (first_entries (how_many p.handed) p.numbers_after)

  abbrev pub later_in : List ℕ
  later_in = drop (how_many p.handed) p.numbers_after

-- Two calls whose lent slices held the same leave the same in them: slots by arrival, all else as it stands.
pub record LeaveAlike (m n : Moment) : Type 0 where
  pub slots : (numbers : List ℕ) (scores : List Float) (p : Leaves found m numbers scores) (q : Leaves found n numbers scores) →
      (p.handed ≡ q.handed) × (listed_in p ≡ listed_in q) × (later_in p ≡ later_in q) × (p.scores_after ≡ q.scores_after)
  pub keys : (numbers : List ℕ) (scores : List Float) (p : Leaves found_keyed m numbers scores) (q : Leaves found_keyed n numbers scores) →
      (p.handed ≡ q.handed) × (p.numbers_after ≡ q.numbers_after) × (p.scores_after ≡ q.scores_after)
  pub files : (file : List ℕ) (p : Writes m file) (q : Writes n file) → (p.handed ≡ q.handed) × (p.file_after ≡ q.file_after)

-- each of the one list with its partner in the other
abbrev pub Paired : (Moment → Moment → Type 0) → List Moment → List Moment → Type 0
Paired R [] [] = Unit
Paired R [] (n ∷ ns) = ⊥
Paired R (m ∷ ms) [] = ⊥
Paired R (m ∷ ms) (n ∷ ns) = R m n × Paired R ms ns

abbrev pub SameLeft : Type 0
SameLeft =
    (x : Index) (a : Arrays) → Start x a → (h₁ h₂ : History) → Legal (begin x a) h₁ → Legal (begin x a) h₂ → struck h₁ ≡ struck h₂ →
    map accepts (others (begin x a) h₁) ≡ map accepts (others (begin x a) h₂) → Paired LeaveAlike (others (begin x a) h₁) (others (begin x a) h₂)
