-- What each call answers and does to an index, as a value. Its first test, 13 for a record and arrays that misfit, stands in Call.antt: such arrays are no value's.
use Rattle.std.specs.Prelude.{Bool, true, false, not, cond, ◌&&◌, ◌||◌, List, [], ◌∷◌, ◌++◌, map, ℕ, zero, suc, ◌-◌, min, max, length, leb, ltb, eqb, Float}
use Rattle.std.proofs.Math.Option.{Option, none, some}
use Rattle.std.proofs.Math.ListN.{get_elem?}
use Rattle.std.specs.Float.Ieee.{is_nan}
use Rattle.lists.specs.Keep.{any, keep, count}
use Rattle.choose.specs.Choose.{choose}
use Rattle.score.specs.Order.{order_number}
pub use Rattle.unit.specs.Brought.{Item, item_of, Query, query_of}
use Rattle.encode.specs.declared.Header.{Header}
use Rattle.encode.specs.Coded.{fault, no_spare, spare_of}
use Rattle.index.specs.State.{Mark, dead, unkeyed, keyed, Slot, State, live, with_bits, new_slot, with_mark}
use Rattle.index.specs.Codec.{encoded, score_of, distance}
use Rattle.index.specs.File.{Entry, file_of}

-- ---- calls and answers

-- `places` is how many places the lent results or the lent file have. 02, Req 06: "Adding states a year"; "Removal and overwrite are told the present year".
pub data Op : Type 0 where
  set_bits : (width : ℕ) → Op
  add : Item → (year : ℕ) → Op
  add_keyed : (key : ℕ) → Item → (year present : ℕ) → Op
  add_multi : (key : ℕ) → Item → (year : ℕ) → Op
  relabel : (old new : ℕ) → Op
  remove : (key present : ℕ) → Op
  remove_at : (key slot present : ℕ) → Op
  key_of : (slot : ℕ) → Op
  contains : (key : ℕ) → Op
  slot_of : (key position : ℕ) → Op
  enable : Op
  score : (slot : ℕ) → Query → Op
  search search_keyed : Query → (k places : ℕ) → Op
  search_cascade : Query → (k r places : ℕ) → Op
  compact : Op
  file_length : Op
  write : (places : ℕ) → Op

pub data Answer : Type 0 where
  refused : (number : ℕ) → Answer
  done : Answer
  flag : Bool → Answer
  slot : (number : ℕ) → Answer
  maybe_slot maybe_key : Option ℕ → Answer
  score_is : Float → Answer
  hits key_hits : List (ℕ × Float) → Answer
  size : ℕ → Answer
  bytes : List ℕ → Answer

-- every answer but a refusal
abbrev pub accepted : Answer → Bool
accepted (refused n) = false
accepted done = true
accepted (flag b) = true
accepted (slot i) = true
accepted (maybe_slot o) = true
accepted (maybe_key o) = true
accepted (score_is x) = true
accepted (hits xs) = true
accepted (key_hits xs) = true
accepted (size n) = true
accepted (bytes bs) = true

-- the first number that is not 0: the refusal that 01's order fixes; 0 where there is none
unfoldable pub first_of : List ℕ → ℕ
first_of [] = 0
first_of (zero ∷ ns) = first_of ns
first_of (suc n ∷ ns) = suc n

abbrev pub when : Bool → ℕ → ℕ
when b n = cond b n 0

abbrev pub unless : ℕ → Answer → Answer
unless zero a = a
unless (suc n) a = refused (suc n)

-- ---- questions of the live slots. They look at a slot's number only to answer it.

-- a live slot with its number
pub record Cell : Type 0 where
  pub number : ℕ
  pub slot : Slot

-- the live slots with their numbers, the first slot of the list having the number i
unfoldable pub live_from : ℕ → List Slot → List Cell
live_from i [] = []
live_from i (s ∷ ss) = cond (live s) (record { number = i; slot = s } ∷ live_from (suc i) ss) (live_from (suc i) ss)

abbrev pub key_of_mark : Mark → Option ℕ
key_of_mark (dead u) = none
key_of_mark (unkeyed u) = none
key_of_mark (keyed k p) = some k

abbrev pub holds : (key : ℕ) → Mark → Bool
holds j (dead u) = false
holds j (unkeyed u) = false
holds j (keyed k p) = eqb k j

abbrev pub holds_at : (key position : ℕ) → Mark → Bool
holds_at j i (dead u) = false
holds_at j i (unkeyed u) = false
holds_at j i (keyed k p) = eqb k j && eqb p i

abbrev pub cell_holds : ℕ → Cell → Bool
cell_holds j c = holds j c.slot.mark

-- how many slots the key has
abbrev pub held_by : ℕ → List Cell → ℕ
held_by j cs = count (cell_holds j) cs

abbrev pub is_held : ℕ → List Cell → Bool
is_held j cs = ltb 0 (held_by j cs)

-- the number of the first cell that passes
unfoldable pub number_where : (Cell → Bool) → List Cell → Option ℕ
number_where p [] = none
number_where p (c ∷ cs) = cond (p c) (some c.number) (number_where p cs)

-- the slot that holds the position of the key
abbrev pub slot_holding : (key position : ℕ) → List Cell → Option ℕ
slot_holding j i cs = number_where (λ c. holds_at j i c.slot.mark) cs

-- a live slot under a query
pub record Hit : Type 0 where
  pub number : ℕ
  pub key : Option ℕ
  pub score : Float

abbrev pub hit_of : Header → Query → Cell → Hit
hit_of h q c = record { number = c.number; key = key_of_mark c.slot.mark; score = score_of h q c.slot.code }

abbrev pub rank : Hit → ℕ
rank x = order_number x.score

-- 1, 2, 3; 12, "a score to be ranked .. is NaN". No size is turned down: 02, Req 05, OneTrait.antt.
unfoldable pub query_refusal : Header → Query → List Hit → ℕ
query_refusal h q xs = first_of (fault h q.vector ∷ when (any (λ x. is_nan x.score) xs) 12 ∷ [])

-- 01, 13: "a result, keyed too, for min(max(k,1), live) places"
abbrev pub short_result : (k live places : ℕ) → ℕ
short_result k n places = when (ltb places (min (max k 1) n)) 13

abbrev pub by_slot : Hit → ℕ × Float
by_slot x = (x.number, x.score)

-- 01, store.rs: "`search_keyed` drops unkeyed hits and repeats"
unfoldable pub by_key : (seen : List ℕ) → List Hit → List (ℕ × Float)
by_key seen [] = []
by_key seen (x ∷ xs) =
    elim x.key [ none ↦ by_key seen xs | some k ↦ cond (any (eqb k) seen) (by_key seen xs) ((k, x.score) ∷ by_key (k ∷ seen) xs) ]

abbrev pub hits_of : Header → Query → List Cell → List Hit
hits_of h q cs = map (hit_of h q) cs

unfoldable pub searched : Header → List Cell → Query → (k places : ℕ) → (List Hit → Answer) → Answer
searched h cs q k places shown =
    let xs = hits_of h q cs in
    unless (first_of (short_result k (length cs) places ∷ query_refusal h q xs ∷ [])) (shown (choose rank k xs))

-- ---- cascade: the r smallest (distance, slot) pairs, in slot order

-- c stands before d: nearer, or as near with the lower number
abbrev pub nearer : Header → Query → Cell → Cell → Bool
nearer h q c d =
    let a = distance h q c.slot.code in
    let b = distance h q d.slot.code in
    ltb a b || (eqb a b && ltb c.number d.number)

unfoldable pub candidates : Header → Query → (r : ℕ) → List Cell → List Cell
candidates h q r cs = keep (λ d. ltb (count (λ c. nearer h q c d) cs) r) cs

-- "r raised to k, at most live", k being at most live and at least 1
abbrev pub wide : (k r live : ℕ) → ℕ
wide k r n = min (max r (max (min k n) 1)) n

-- 13, 11, then as a search, "its 12 over candidates only"
unfoldable pub searched_cascade : State → List Cell → Query → (k r places : ℕ) → Answer
searched_cascade s cs q k r places =
    let h = s.header in
    let xs = hits_of h q (candidates h q (wide k r (length cs)) cs) in
    unless (first_of (short_result k (length cs) places ∷ when (not (s.cascade && eqb h.bits 4)) 11 ∷ query_refusal h q xs ∷ []))
    (hits (map by_slot (choose rank k xs)))

-- ---- questions about one slot, a dead one too

-- 1, 2, 3, 9, 12
unfoldable pub score_answer : Header → Query → Option Slot → Answer
score_answer h q none = unless (first_of (fault h q.vector ∷ 9 ∷ [])) done
score_answer h q (some s) =
    let x = score_of h q s.code in
    unless (first_of (fault h q.vector ∷ when (is_nan x) 12 ∷ [])) (score_is x)

-- 01: "a slot past those in use has no key"
abbrev pub key_answer : Option Slot → Option ℕ
key_answer none = none
key_answer (some s) = key_of_mark s.mark

-- ---- writing

abbrev pub entry_of : Cell → Entry
entry_of c = record { code = c.slot.code; key = key_of_mark c.slot.mark; year = c.slot.year }

abbrev pub file_bytes : Header → List Cell → List ℕ
file_bytes h cs = file_of h (map entry_of cs)

-- ---- changes

abbrev pub on_mark : (Mark → Mark) → Slot → Slot
on_mark f s = with_mark s (f s.mark)

-- a removed slot is dead, and the word of its key stays
abbrev pub removed : (key : ℕ) → Mark → Mark
removed j (dead u) = dead u
removed j (unkeyed u) = unkeyed u
removed j (keyed k p) = cond (eqb k j) (dead k) (keyed k p)

abbrev pub relabelled : (old new : ℕ) → Mark → Mark
relabelled j k (dead u) = dead u
relabelled j k (unkeyed u) = unkeyed u
relabelled j k (keyed i p) = cond (eqb i j) (keyed k p) (keyed i p)

-- 01, store.rs: "`remove_keyed_at` moves the last held slot to the gap". The slot at the gap dies, and the one at the last position takes the gap's.
abbrev pub gap_filled : (key gap last : ℕ) → Mark → Mark
gap_filled j gap last (dead u) = dead u
gap_filled j gap last (unkeyed u) = unkeyed u
gap_filled j gap last (keyed k p) = cond (eqb k j) (cond (eqb p gap) (dead k) (cond (eqb p last) (keyed k gap) (keyed k p))) (keyed k p)

-- the position that a slot holds of the key
abbrev pub position_of : (key : ℕ) → Option Slot → Option ℕ
position_of j none = none
position_of j (some s) = elim s.mark [ dead u ↦ none | unkeyed u ↦ none | keyed k p ↦ cond (eqb k j) (some p) none ]

-- 02, Req 06: "an overwrite sets the new one", the year
abbrev pub overwritten : Header → (key : ℕ) → Item → (year : ℕ) → Slot → Slot
overwritten h j v y s =
    let b = holds_at j 0 s.mark in
    new_slot s.mark (cond b (encoded h (spare_of h s.code) v) s.code) (cond b y s.year)

-- 02, Req 06: "has year 0, or a year above 1 that is past the present one"
abbrev pub must_stay : (present year : ℕ) → Bool
must_stay present y = eqb y 0 || (ltb 1 y && ltb present y)

-- 21, "when a live slot that a removal would take or an overwrite would write" must stay, `taken` saying by its mark which slots these are. 01: a dead slot holds no key.
unfoldable pub any_must_stay : (taken : Mark → Bool) → (present : ℕ) → List Slot → Bool
any_must_stay taken present ss = any (λ s. taken s.mark && must_stay present s.year) ss

-- rising held order: each key's slots hold 0, 1, 2 in slot order. `seen` says how many slots of each key came before.
abbrev pub one_more : (key : ℕ) → (ℕ → ℕ) → ℕ → ℕ
one_more k seen j = cond (eqb k j) (suc (seen j)) (seen j)

unfoldable pub rising : (seen : ℕ → ℕ) → List Slot → List Slot
rising seen [] = []
rising seen (s ∷ ss) =
    elim s.mark [
      | dead u ↦ s ∷ rising seen ss
      | unkeyed u ↦ s ∷ rising seen ss
      | keyed k p ↦ with_mark s (keyed k (seen k)) ∷ rising (one_more k seen) ss
    ]

-- what a compaction leaves of the slots
unfoldable pub compacted : List Slot → List Slot
compacted ss = rising (λ k. 0) (keep live ss)

-- ---- the step

pub record Outcome : Type 0 where
  pub state : State
  pub answer : Answer

abbrev pub answered : State → Answer → Outcome
answered s a = record { state = s; answer = a }

-- other slots, the cascade kept or ended
abbrev pub with_slots : State → (cascade : Bool) → List Slot → State
with_slots s on ss = record { header = s.header; cascade = on; slots = ss }

-- a refusal leaves the state as it was
unfoldable pub guarded : State → (refusal : ℕ) → Outcome → Outcome
guarded s zero o = o
guarded s (suc n) o = answered s (refused (suc n))

-- 01: "Every accepted add, overwrites too, ends it" (the cascade)
unfoldable pub appended : (room : ℕ) → State → Mark → Item → (year : ℕ) → Outcome
appended room s m v y =
    let h = s.header in
    let n = length s.slots in
    guarded s (first_of (fault h v.vector ∷ when (leb room n) 8 ∷ []))
    (record { state = with_slots s false (s.slots ++ (new_slot m (encoded h no_spare v) y ∷ [])); answer = slot n })

-- a change of every slot's mark: no, or a refusal, or yes
unfoldable pub remarked : State → Bool → (refusal : ℕ) → (Mark → Mark) → Outcome
remarked s holds refusal f =
    cond holds (guarded s refusal (record { state = with_slots s s.cascade (map (on_mark f) s.slots); answer = flag true })) (answered s (flag false))

-- A width call: 5, 6, 7; "so does an accepted width call" end the cascade.
unfoldable pub width_set : State → ℕ → Outcome
width_set s w =
    let h = s.header in
    guarded s (first_of (when (not (leb 4 w && leb w 6)) 5 ∷ when (ltb 0 (length s.slots)) 6 ∷ when (h.residual && not (eqb w 4)) 7 ∷ []))
    (record {
      state = record { header = with_bits h w; cascade = false; slots = [] };
      answer = done;
    })

unfoldable pub step : (room : ℕ) → State → Op → Outcome
step room s (set_bits w) = width_set s w
step room s (add v y) = appended room s (unkeyed 0) v y
step room s (add_keyed j v y present) =
    let cs = live_from 0 s.slots in
    elim (slot_holding j 0 cs) [
      | none ↦ appended room s (keyed j 0) v y
      | some i ↦
          guarded s (first_of (fault s.header v.vector ∷ when (any_must_stay (holds_at j 0) present s.slots) 21 ∷ []))
          (record { state = with_slots s false (map (overwritten s.header j v y) s.slots); answer = slot i })
    ]
step room s (add_multi j v y) = appended room s (keyed j (held_by j (live_from 0 s.slots))) v y
step room s (relabel j k) =
    let cs = live_from 0 s.slots in
    remarked s (is_held j cs && (eqb j k || not (is_held k cs))) 0 (relabelled j k)
step room s (remove j present) =
    remarked s (is_held j (live_from 0 s.slots)) (when (any_must_stay (holds j) present s.slots) 21) (removed j)
step room s (remove_at j i present) =
    elim (position_of j (get_elem? s.slots i)) [
      | none ↦ answered s (flag false)
      | some gap ↦
          remarked s true (when (any_must_stay (holds_at j gap) present s.slots) 21)
          (gap_filled j gap (held_by j (live_from 0 s.slots) - 1))
    ]
step room s (key_of i) = answered s (maybe_key (key_answer (get_elem? s.slots i)))
step room s (contains j) = answered s (flag (is_held j (live_from 0 s.slots)))
step room s (slot_of j i) = answered s (maybe_slot (slot_holding j i (live_from 0 s.slots)))
step room s enable =
    guarded s (when (not (eqb s.header.bits 4)) 11) (record { state = with_slots s true s.slots; answer = done })
step room s (score i q) = answered s (score_answer s.header q (get_elem? s.slots i))
step room s (search q k places) = answered s (searched s.header (live_from 0 s.slots) q k places (λ xs. hits (map by_slot xs)))
step room s (search_keyed q k places) = answered s (searched s.header (live_from 0 s.slots) q k places (λ xs. key_hits (by_key [] xs)))
step room s (search_cascade q k r places) = answered s (searched_cascade s (live_from 0 s.slots) q k r places)
step room s compact =
    record { state = with_slots s (s.cascade && not (any (λ x. not (live x)) s.slots)) (compacted s.slots); answer = done }
step room s file_length = answered s (size (length (file_bytes s.header (live_from 0 s.slots))))
step room s (write places) =
    let bs = file_bytes s.header (live_from 0 s.slots) in
    answered s (unless (when (ltb places (length bs)) 13) (bytes bs))
