-- A refused call leaves the record and the arrays as they were; and no refusal is 0 or 10.
use mathlib.Core.Path.{◌≡◌, refl, sym, ap, ◌∙◌, subst}
use mathlib.Core.Bool.{Bool, true, false, not, ◌&&◌, true≢false}
use mathlib.Core.List.{List, [], ◌∷◌, map}
use mathlib.Core.Option.{Option, none, some}
use Prim.Native.Nat.{ℕ, zero, suc, ◌<◌, min, max}
use native.Mathlib.Omega.{arith}
use lib.ListN.{length, get_elem?}
use lib.Dec.{T, leb, ltb, eqb}
use lib.Ieee.{Float, is_nan}
use borrow.Author.Tests.{ne_eqb}
use Rattle.lists.specs.Keep.{Each, any}
use Rattle.vectors.proofs.Faults.{fault-most}
use Rattle.choose.specs.Choose.{choose}
use Rattle.encode.specs.declared.Header.{Header}
use Rattle.encode.specs.Coded.{fault}
use Rattle.index.specs.declared.Index.{Index}
use Rattle.index.specs.Arrays.{Arrays, unmarked}
use Rattle.index.specs.State.{Mark, keyed, Slot, State, header_of, capacity, state_of, record_of, overlay}
use Rattle.index.specs.Codec.{score_of}
use Rattle.index.specs.Fit.{fit}
use Rattle.index.specs.Step.{Op, set_bits, add, add_keyed, add_multi, relabel, remove, remove_at, key_of, contains, slot_of, enable, score, search, search_keyed, search_cascade, compact, file_length, write, Answer, refused, done, flag, slot, maybe_slot, maybe_key, score_is, hits, key_hits, size, bytes, first_of, when, unless, Cell, live_from, slot_holding, position_of, any_must_stay, Item, Query, Hit, hits_of, rank, by_slot, short_result, query_refusal, candidates, wide, file_bytes, Outcome, searched, searched_cascade, score_answer, answered, guarded, appended, remarked, width_set, step}
use Rattle.index.specs.Call.{call}
use Rattle.index.specs.OneTrait.{NeverTen}
use Rattle.index.proofs.Fits.{overlay-self, record-self}

-- what holds of both outcomes of a look-up
pub either_way : (P : Outcome → Type 0) (o : Option ℕ) (u : Outcome) (f : ℕ → Outcome) → (o ≡ none → P u) → ((i : ℕ) → o ≡ some i → P (f i)) → P (elim o [ none ↦ u | some i ↦ f i ])
either_way P none u f h k = h refl
either_way P (some i) u f h k = k i refl

abbrev is_refused : Answer → Bool
is_refused (refused n) = true
is_refused done = false
is_refused (flag b) = false
is_refused (slot i) = false
is_refused (maybe_slot o) = false
is_refused (maybe_key o) = false
is_refused (score_is x) = false
is_refused (hits xs) = false
is_refused (key_hits xs) = false
is_refused (size n) = false
is_refused (bytes bs) = false

-- where it is refused, the state stays
record Stays (s : State) (o : Outcome) : Type 0 where
  state : (n : ℕ) → o.answer ≡ refused n → o.state ≡ s

module _ (s : State) where
  accepted-stays : (o : Outcome) → is_refused o.answer ≡ false → Stays s o
  accepted-stays o e = record { state = λ n r. absurd (subst T (sym (ap is_refused r) ∙ e) tt) }

  answered-stays : (b : Answer) → Stays s (answered s b)
  answered-stays b = record { state = λ n r. refl }

  guarded-stays : (refusal : ℕ) (o : Outcome) → is_refused o.answer ≡ false → Stays s (guarded s refusal o)
  unfolding guarded
  guarded-stays zero o e = accepted-stays o e
  guarded-stays (suc m) o e = answered-stays (refused (suc m))

  appended-stays : (room : ℕ) (m : Mark) (v : Item) (y : ℕ) → Stays s (appended room s m v y)
  unfolding appended
  appended-stays room m v y = guarded-stays _ _ refl

  marked-stays : (b : Bool) (refusal : ℕ) (f : Mark → Mark) → Stays s (remarked s b refusal f)
  unfolding remarked
  marked-stays true n f = guarded-stays n _ refl
  marked-stays false n f = answered-stays (flag false)

  step_stays : (room : ℕ) (op : Op) → Stays s (step room s op)
  unfolding step width_set
  step_stays room (set_bits w) = guarded-stays _ _ refl
  step_stays room (add v y) = appended-stays room _ v y
  step_stays room (add_keyed j v y present) =
      either_way (Stays s) (slot_holding j 0 (live_from 0 s.slots)) _ _ (λ e. appended-stays room (keyed j 0) v y) (λ i e. guarded-stays _ _ refl)
  step_stays room (add_multi j v y) = appended-stays room _ v y
  step_stays room (relabel j k) = marked-stays _ _ _
  step_stays room (remove j present) = marked-stays _ _ _
  step_stays room (remove_at j i present) = either_way (Stays s) (position_of j (get_elem? s.slots i)) _ _ (λ e. answered-stays (flag false)) (λ gap e. marked-stays true _ _)
  step_stays room (key_of i) = answered-stays _
  step_stays room (contains j) = answered-stays _
  step_stays room (slot_of j i) = answered-stays _
  step_stays room enable = guarded-stays _ _ refl
  step_stays room (score i q) = answered-stays _
  step_stays room (search q k places) = answered-stays _
  step_stays room (search_keyed q k places) = answered-stays _
  step_stays room (search_cascade q k r places) = answered-stays _
  step_stays room compact = accepted-stays _ refl
  step_stays room file_length = answered-stays _
  step_stays room (write places) = answered-stays _

-- the record and the arrays are as they were
pub record Unchanged (x : Index) (a : Arrays) (op : Op) : Type 0 where
  pub index : (call x a op).index ≡ x
  pub arrays : (call x a op).arrays ≡ a

pub refused-unchanged : (x : Index) (a : Arrays) (op : Op) (n : ℕ) → (call x a op).answer ≡ refused n → Unchanged x a op
unfolding call
refused-unchanged x a op n e = go (fit x a) refl
  where
    go : (b : Bool) → fit x a ≡ b → Unchanged x a op
    go false f = record { index = rw f; arrays = rw f }
    go true f =
        let same : (step (capacity (header_of x) a) (state_of x a) op).state ≡ state_of x a = (step_stays (state_of x a) (capacity (header_of x) a) op).state n (rw f at e) in
        record {
          index = rw f (ap record_of same ∙ record-self x a f);
          arrays = rw f (ap (λ (t : State). overlay (unmarked a) t.slots) same ∙ overlay-self x a f);
        }

-- ---- which numbers are given: none is 0, so that a call for C can answer 0 where there is none, and none is 10

-- not 10
record NotTen (n : ℕ) : Type 0 where
  other : eqb n 10 ≡ false

-- the number of a refusal
abbrev Given : ℕ → Type 0
Given n = (0 < n) × NotTen n

first-not-ten : (ns : List ℕ) → Each NotTen ns → NotTen (first_of ns)
unfolding first_of
first-not-ten [] k = record { other = refl }
first-not-ten (zero ∷ ns) k = first-not-ten ns k.1
first-not-ten (suc n ∷ ns) k = k.0

when-not-ten : (b : Bool) (n : ℕ) → eqb n 10 ≡ false → NotTen (when b n)
when-not-ten true n k = record { other = k }
when-not-ten false n k = record { other = refl }

fault-not-ten : (h : Header) (v : List Float) → NotTen (fault h v)
fault-not-ten h v = record { other = ne_eqb (fault h v) 10 (λ e. omega (arith, e, fault-most h.dim h.working_dim v)) }

-- a refusal's number, and 1 for any other answer
abbrev number_of : Answer → ℕ
number_of (refused n) = n
number_of done = 1
number_of (flag b) = 1
number_of (slot i) = 1
number_of (maybe_slot o) = 1
number_of (maybe_key o) = 1
number_of (score_is x) = 1
number_of (hits xs) = 1
number_of (key_hits xs) = 1
number_of (size n) = 1
number_of (bytes bs) = 1

abbrev Numbered : Outcome → Type 0
Numbered o = Given (number_of o.answer)

-- of what is no refusal
accepted-given : Given 1
accepted-given = (omega arith, record { other = refl })

suc-given : (n : ℕ) → NotTen (suc n) → Given (suc n)
suc-given n k = (omega arith, k)

unless-numbered : (n : ℕ) (b : Answer) → NotTen n → Given (number_of b) → Given (number_of (unless n b))
unless-numbered zero b k g = g
unless-numbered (suc n) b k g = suc-given n k

query-not-ten : (h : Header) (q : Query) (xs : List Hit) → NotTen (query_refusal h q xs)
unfolding query_refusal
query-not-ten h q xs = first-not-ten _ (fault-not-ten h q.vector, (when-not-ten (any (λ x. is_nan x.score) xs) 12 refl, tt))

short-not-ten : (k n places : ℕ) → NotTen (short_result k n places)
short-not-ten k n places = when-not-ten (ltb places (min (max k 1) n)) 13 refl

score-numbered : (h : Header) (q : Query) (o : Option Slot) → Given (number_of (score_answer h q o))
unfolding score_answer
score-numbered h q none =
    unless-numbered (first_of (fault h q.vector ∷ 9 ∷ [])) done (first-not-ten _ (fault-not-ten h q.vector, (record { other = refl }, tt))) accepted-given
score-numbered h q (some t) =
    let x = score_of h q t.code in
    unless-numbered (first_of (fault h q.vector ∷ when (is_nan x) 12 ∷ [])) (score_is x) (first-not-ten _ (fault-not-ten h q.vector, (when-not-ten (is_nan x) 12 refl, tt))) accepted-given

searched-numbered : (h : Header) (cs : List Cell) (q : Query) (k places : ℕ) (shown : List Hit → Answer) → ((xs : List Hit) → Given (number_of (shown xs))) →
    Given (number_of (searched h cs q k places shown))
unfolding searched
searched-numbered h cs q k places shown given =
    let xs = hits_of h q cs in
    let ns = short_result k (length cs) places ∷ query_refusal h q xs ∷ [] in
    unless-numbered (first_of ns) (shown (choose rank k xs)) (first-not-ten ns (short-not-ten k (length cs) places, (query-not-ten h q xs, tt))) (given (choose rank k xs))

cascade-numbered : (s : State) (cs : List Cell) (q : Query) (k r places : ℕ) → Given (number_of (searched_cascade s cs q k r places))
unfolding searched_cascade
cascade-numbered s cs q k r places =
    let xs = hits_of s.header q (candidates s.header q (wide k r (length cs)) cs) in
    let off = not (s.cascade && eqb s.header.bits 4) in
    let ns = short_result k (length cs) places ∷ when off 11 ∷ query_refusal s.header q xs ∷ [] in
    unless-numbered (first_of ns) (hits (map by_slot (choose rank k xs)))
    (first-not-ten ns (short-not-ten k (length cs) places, (when-not-ten off 11 refl, (query-not-ten s.header q xs, tt)))) accepted-given

module _ (s : State) where
  guarded-numbered : (n : ℕ) (o : Outcome) → NotTen n → Numbered o → Numbered (guarded s n o)
  unfolding guarded
  guarded-numbered zero o k g = g
  guarded-numbered (suc n) o k g = suc-given n k

  appended-numbered : (room : ℕ) (m : Mark) (v : Item) (y : ℕ) → Numbered (appended room s m v y)
  unfolding appended
  appended-numbered room m v y =
      guarded-numbered _ _ (first-not-ten _ (fault-not-ten s.header v.vector, (when-not-ten (leb room (length s.slots)) 8 refl, tt))) accepted-given

  marked-numbered : (b : Bool) (n : ℕ) (f : Mark → Mark) → NotTen n → Numbered (remarked s b n f)
  unfolding remarked
  marked-numbered true n f k = guarded-numbered n _ k accepted-given
  marked-numbered false n f k = accepted-given

  stay-not-ten : (taken : Mark → Bool) (present : ℕ) → NotTen (when (any_must_stay taken present s.slots) 21)
  stay-not-ten taken present = when-not-ten (any_must_stay taken present s.slots) 21 refl

  width-numbered : (w : ℕ) → Numbered (width_set s w)
  unfolding width_set
  width-numbered w =
      let range = when-not-ten (not (leb 4 w && leb w 6)) 5 refl in
      let unused = when-not-ten (ltb 0 (length s.slots)) 6 refl in
      let plain = when-not-ten (s.header.residual && not (eqb w 4)) 7 refl in
      guarded-numbered _ _ (first-not-ten _ (range, (unused, (plain, tt)))) accepted-given

  step-numbered : (room : ℕ) (op : Op) → Numbered (step room s op)
  unfolding step
  step-numbered room (set_bits w) = width-numbered w
  step-numbered room (add v y) = appended-numbered room _ v y
  step-numbered room (add_keyed j v y present) =
      either_way Numbered (slot_holding j 0 (live_from 0 s.slots)) _ _ (λ e. appended-numbered room (keyed j 0) v y)
      (λ i e. guarded-numbered _ _ (first-not-ten _ (fault-not-ten s.header v.vector, (stay-not-ten _ present, tt))) accepted-given)
  step-numbered room (add_multi j v y) = appended-numbered room _ v y
  step-numbered room (relabel j k) = marked-numbered _ 0 _ (record { other = refl })
  step-numbered room (remove j present) = marked-numbered _ _ _ (stay-not-ten _ present)
  step-numbered room (remove_at j i present) =
      either_way Numbered (position_of j (get_elem? s.slots i)) _ _ (λ e. accepted-given) (λ gap e. marked-numbered true _ _ (stay-not-ten _ present))
  step-numbered room (key_of i) = accepted-given
  step-numbered room (contains j) = accepted-given
  step-numbered room (slot_of j i) = accepted-given
  step-numbered room enable = guarded-numbered _ _ (when-not-ten (not (eqb s.header.bits 4)) 11 refl) accepted-given
  step-numbered room (score i q) = score-numbered _ q _
  step-numbered room (search q k places) = searched-numbered _ _ q k places _ (λ xs. accepted-given)
  step-numbered room (search_keyed q k places) = searched-numbered _ _ q k places _ (λ xs. accepted-given)
  step-numbered room (search_cascade q k r places) = cascade-numbered s _ q k r places
  step-numbered room compact = accepted-given
  step-numbered room file_length = accepted-given
  step-numbered room (write places) =
      let bs = file_bytes s.header (live_from 0 s.slots) in
      unless-numbered (when (ltb places (length bs)) 13) (bytes bs) (when-not-ten (ltb places (length bs)) 13 refl) accepted-given

call-numbered : (x : Index) (a : Arrays) (op : Op) → Given (number_of (call x a op).answer)
unfolding call
call-numbered x a op = go (fit x a) refl
  where
    go : (b : Bool) → fit x a ≡ b → Given (number_of (call x a op).answer)
    go false f = rw f (suc-given 12 (record { other = refl }))
    go true f = rw f (step-numbered (state_of x a) (capacity (header_of x) a) op)

pub never-0 : (x : Index) (a : Arrays) (op : Op) → (call x a op).answer ≡ refused 0 → ⊥
never-0 x a op e = omega (arith, ap number_of e, (call-numbered x a op).0)

pub never-ten : NeverTen
never-ten x a op e = true≢false (ap (λ (b : Answer). eqb (number_of b) 10) (sym e) ∙ (call-numbered x a op).1.other)
