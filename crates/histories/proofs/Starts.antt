-- A start is a good run: the record and the arrays fit, and the slots in use, none in a new index, hold rising positions.
use mathlib.Core.Path.{◌≡◌, refl, sym, ap, ap₂, ◌∙◌, subst}
use mathlib.Core.Bool.{true, not, ◌&&◌, ◌||◌}
use mathlib.Core.List.{List, [], ◌∷◌, map}
use Prim.Native.Nat.{ℕ, zero, suc, ◌<◌}
use native.Mathlib.Omega.{arith}
use lib.ListN.{length}
use lib.Dec.{T, eqb}
use borrow.Author.Tests.{le-ltb, not-false}
use Rattle.lists.specs.Lists.{tab, below, zip_with, over, joined}
use Rattle.lists.specs.Keep.{bit, Each}
use Rattle.lists.proofs.Laws.{length-tab, zip-tab, tab-ext}
use Rattle.lists.proofs.Front.{map-tab, each-tab}
use Rattle.encode.specs.declared.Header.{Header}
use Rattle.index.specs.declared.Index.{Index}
use Rattle.index.specs.Verdict.{granted}
use Rattle.index.specs.Arrays.{Arrays, unmarked}
use Rattle.index.specs.State.{Mark, dead, unkeyed, keyed, Slot, is_live, live, State, header_of, capacity, slot_at, state_of, record_of, overlay, seconds, with_mark}
use Rattle.index.specs.Fit.{between, fit}
use Rattle.index.specs.Step.{done, key_of_mark, live_from, one_more, set_bits, when, rising, width_set, guarded, Outcome, step}
use Rattle.index.specs.Call.{Result, call}
use Rattle.index.specs.Answers.{result_of}
use Rattle.index.specs.Make.{Begun, begun, empty, begun_unless, make_refusal, make}
use Rattle.index.specs.Sound.{Ranged, Sound}
use Rattle.index.specs.Read.{count_in, key_from, entries_in, year_in, slot_in, slots_in, state_in, read_into}
use Rattle.index.proofs.Fits.{sound-fit}
use Rattle.lists.proofs.Tests.{and_left, and_right}
use Rattle.index.proofs.Kept.{first-none, when-none, fit-kept, call-state}
use Rattle.index.proofs.Read.{record_in, is_made, unkeyed_word, mark-key, loose, loose-live, read-words, read_length, read-rises, read_fits, read-value}
use Rattle.histories.specs.Histories.{Making, new, with_residual, with_working_dim, made_header, Start, as_made, with_width, as_read, begin, ids, LiveArrival, live_arrival, live_by, Told, filed_arrival, told_in, AllArrive, ToldAsFiled}
use Rattle.histories.proofs.Arrivals.{Sorted, sorted_more}
use Rattle.histories.proofs.Cells.{cells-in-order}
use Rattle.histories.proofs.Held.{cells-risen}
use Rattle.histories.proofs.Tracks.{none_seen}
use Rattle.histories.proofs.Runs.{Good}

-- ---- an accepted making

make-accepted : (h : Header) (b : Arrays) (x : Index) (a : Arrays) → make h b ≡ begun (granted x) a →
    (make_refusal h b ≡ 0) × (record_of (empty h) ≡ x) × (unmarked b ≡ a)
unfolding make
make-accepted h b x a e = go (make_refusal h b) e
  where
    go : (n : ℕ) → begun_unless n (record_of (empty h)) b (unmarked b) ≡ begun (granted x) a → (n ≡ 0) × (record_of (empty h) ≡ x) × (unmarked b ≡ a)
    go zero f = (refl, ap (λ (r : Begun). record_in x r.answer) f, ap (λ (r : Begun). r.arrays) f)
    go (suc n) f = absurd (omega (arith, ap (λ (r : Begun). is_made r.answer) f))

ranged-of : (h : Header) (a : Arrays) → make_refusal h a ≡ 0 → between 4 6 h.bits ≡ true → (not h.residual || eqb h.bits 4) ≡ true → Ranged h
unfolding make_refusal
ranged-of h a e w r =
    let dims : (between 1 4096 h.dim && between 1 h.dim h.working_dim) ≡ true =
    not-false _ (when-none _ 3 (first-none _ (when (eqb (capacity h a) 0) 13 ∷ []) e).0) in
    record {
      dim = and_left (between 1 4096 h.dim) (between 1 h.dim h.working_dim) dims;
      working_dim = and_right (between 1 4096 h.dim) (between 1 h.dim h.working_dim) dims;
      bits = w;
      residual = r;
    }

made-ranged : (m : Making) (a : Arrays) → make_refusal (made_header m) a ≡ 0 → Ranged (made_header m)
made-ranged (new dim seed) a e = ranged-of (made_header (new dim seed)) a e refl refl
made-ranged (with_residual dim seed) a e = ranged-of (made_header (with_residual dim seed)) a e refl refl
made-ranged (with_working_dim dim working seed) a e = ranged-of (made_header (with_working_dim dim working seed)) a e refl refl

no-overlay : (a : Arrays) → overlay a [] ≡ a
unfolding overlay over joined seconds
no-overlay a = refl

empty-sound : (h : Header) (a : Arrays) → Ranged h → Sound (capacity h a) (empty h)
empty-sound h a r = record { header = r; space = omega arith; shape = tt; positions = λ k p. sym (ap bit (le-ltb p 0 (omega arith))) }

made-fit : (m : Making) (b : Arrays) (x : Index) (a : Arrays) → make (made_header m) b ≡ begun (granted x) a → (fit x a ≡ true) × (x.n ≡ 0)
unfolding record_of
made-fit m b x a e =
    let p = make-accepted (made_header m) b x a e in (
      ap₂ fit (sym p.1) (sym p.2 ∙ sym (no-overlay (unmarked b))) ∙ sound-fit (empty (made_header m)) b (empty-sound (made_header m) b (made-ranged m b p.0)),
      ap (λ (y : Index). y.n) (sym p.1),
    )

-- ---- no slot in use

none-slots : (x : Index) (a : Arrays) → x.n ≡ 0 → (state_of x a).slots ≡ []
unfolding state_of
none-slots x a e = ap (tab (slot_at (header_of x) a)) e

pub slots-in-use : (x : Index) (a : Arrays) → length (state_of x a).slots ≡ x.n
unfolding state_of
slots-in-use x a = length-tab (slot_at (header_of x) a) x.n

slots-none : (x : Index) (a : Arrays) → (state_of x a).slots ≡ [] → x.n ≡ 0
slots-none x a e = sym (slots-in-use x a) ∙ ap length e

guarded-slots : (s : State) (n : ℕ) (o : Outcome) → s.slots ≡ [] → o.state.slots ≡ [] → (guarded s n o).state.slots ≡ []
unfolding guarded
guarded-slots s zero o e f = f
guarded-slots s (suc n) o e f = e

width-slots : (s : State) (w : ℕ) → s.slots ≡ [] → (width_set s w).state.slots ≡ []
unfolding width_set
width-slots s w e = guarded-slots s _ _ e refl

-- ---- a start as a run

arrivals-sorted : (n : ℕ) → Sorted (tab (λ i. i) n)
arrivals-sorted zero = tt
arrivals-sorted (suc n) = sorted_more n (tab (λ i. i) n) (arrivals-sorted n) (each-tab (λ a. a < n) (λ i. i) n (λ i l. l))

-- a record and arrays that fit, whose slots hold rising positions, the key word of one without a key being 0
begin-good : (x : Index) (a : Arrays) → fit x a ≡ true → rising none_seen (state_of x a).slots ≡ (state_of x a).slots →
    Each (λ s. unkeyed_word s.mark ≡ 0) (state_of x a).slots → Good (begin x a)
unfolding begin
begin-good x a f r w =
    record {
      fits = f;
      header = refl;
      tracks =
          record {
            places = length-tab (λ i. i) x.n ∙ sym (slots-in-use x a);
            sorted = arrivals-sorted x.n;
            below = each-tab (λ b. b < x.n) (λ i. i) x.n (λ i l. l);
            cells = cells-in-order x.n (state_of x a).slots (slots-in-use x a) ∙ cells-risen none_seen 0 (state_of x a).slots r w;
          };
    }

empty-good : (x : Index) (a : Arrays) → fit x a ≡ true → x.n ≡ 0 → Good (begin x a)
unfolding rising
empty-good x a f z = begin-good x a f (rw (none-slots x a z)) (rw (none-slots x a z) tt)

-- what is read
read-good : (file : List ℕ) (b : Arrays) (x : Index) → (read_into b file).answer ≡ granted x → Good (begin x (read_into b file).arrays)
unfolding state_in
read-good file b x e =
    let same : (state_of x (read_into b file).arrays).slots ≡ slots_in file = ap (λ (s : State). s.slots) (read-value b file x e) in
    begin-good x (read_into b file).arrays (read_fits b file x e) (rw same (read-rises file)) (rw same (read-words file))

-- a width call on an index without slots
width-fit : (y : Index) (b : Arrays) (w : ℕ) (x : Index) (a : Arrays) → fit y b ≡ true → y.n ≡ 0 → call y b (set_bits w) ≡ result_of x a done → (fit x a ≡ true) × (x.n ≡ 0)
unfolding step
width-fit y b w x a g z f =
    let i : (call y b (set_bits w)).index ≡ x = ap (λ (r : Result). r.index) f in
    let k : (call y b (set_bits w)).arrays ≡ a = ap (λ (r : Result). r.arrays) f in (
      ap₂ fit (sym i) (sym k) ∙ fit-kept y b (set_bits w) g,
      slots-none x a
          (ap₂ (λ (z : Index) (c : Arrays). (state_of z c).slots) (sym i) (sym k) ∙ ap (λ (s : State). s.slots) (call-state y b (set_bits w) g) ∙
          width-slots (state_of y b) w (none-slots y b z)),
    )

pub start-good : (x : Index) (a : Arrays) → Start x a → Good (begin x a)
start-good x a (as_made m b e) = let p = made-fit m b x a e in empty-good x a p.0 p.1
start-good x a (with_width m c y b w e f) = let p = made-fit m c y b e in let q = width-fit y b w x a p.0 p.1 f in empty-good x a q.0 q.1
start-good x a (as_read file b e) =
    subst (λ (c : Arrays). Good (begin x c)) (ap (λ (r : Begun). r.arrays) e) (read-good file b x (ap (λ (r : Begun). r.answer) e))

-- ---- what a read start tells is what the file says

abbrev arriving : ℕ → Slot → LiveArrival
arriving a s = record { arrival = a; key = key_of_mark s.mark; code = s.code; year = s.year }

-- rising positions change no key, code or year
risen-arrive : (seen : ℕ → ℕ) (ws : List ℕ) (ss : List Slot) → length ws ≡ length ss → Each (λ s. live s ≡ true) ss →
    map live_arrival (live_by ws (rising seen ss)) ≡ zip_with arriving ws ss
unfolding rising
risen-arrive seen [] ss e h = refl
risen-arrive seen (a ∷ ws) [] e h = absurd (omega arith)
risen-arrive seen (a ∷ ws) (s ∷ ss) e h = go s.mark h.0 (λ next. risen-arrive next ws ss (omega arith) h.1)
  where
    go : (m : Mark) → is_live m ≡ true → ((next : ℕ → ℕ) → map live_arrival (live_by ws (rising next ss)) ≡ zip_with arriving ws ss) →
        map live_arrival (live_by (a ∷ ws) (rising seen (with_mark s m ∷ ss))) ≡ (arriving a (with_mark s m) ∷ zip_with arriving ws ss)
    go (dead u) l ih = absurd (subst T (sym l) tt)
    go (unkeyed u) l ih = rw (ih seen)
    go (keyed k p) l ih = rw (ih (one_more k seen))

slots-arrive : (file : List ℕ) → map live_arrival (live_from 0 (slots_in file)) ≡ tab (filed_arrival file) (count_in file)
unfolding slots_in slot_in
slots-arrive file =
    let n : ℕ = count_in file in
    ap (map live_arrival) (sym (cells-in-order n (slots_in file) (read_length file))) ∙
    risen-arrive none_seen (below n) (loose file) (length-tab (λ i. i) n ∙ sym (length-tab (slot_in file) n)) (loose-live file) ∙
    zip-tab arriving (λ i. i) (slot_in file) n ∙
    tab-ext _ _ n (λ i l. λ j. record { arrival = i; key = mark-key (key_from (entries_in file) i) j; code = (slot_in file i).code; year = year_in file i })

pub told-as-filed : ToldAsFiled
unfolding begin state_of state_in
told-as-filed file b x a e =
    let made : (read_into b file).answer ≡ granted x = ap (λ (r : Begun). r.answer) e in
    let value : state_of x a ≡ state_in file = ap (state_of x) (sym (ap (λ (r : Begun). r.arrays) e)) ∙ read-value b file x made in
    let count : x.n ≡ count_in file = sym (slots-in-use x a) ∙ ap (λ (s : State). length s.slots) value ∙ read_length file in
    let living : map live_arrival (live_from 0 (state_of x a).slots) ≡ (told_in file).living =
    ap (λ (s : State). map live_arrival (live_from 0 s.slots)) value ∙ slots-arrive file in
    λ i. record { header = (value i).header; next = count i; living = living i }

none-arrive : (x : Index) (a : Arrays) → x.n ≡ 0 → ids (begin x a).told.living ≡ below x.n
unfolding begin live_from
none-arrive x a z = ap (λ (ss : List Slot). ids (map live_arrival (live_from 0 ss))) (none-slots x a z) ∙ ap below (sym z)

pub all-arrive : AllArrive
unfolding begin
all-arrive x a (as_made m b e) = none-arrive x a (made-fit m b x a e).1
all-arrive x a (with_width m c y b w e f) = let p = made-fit m c y b e in none-arrive x a (width-fit y b w x a p.0 p.1 f).1
all-arrive x a (as_read file b e) =
    let told : (begin x a).told ≡ told_in file = told-as-filed file b x a e in
    ap (λ (t : Told). ids t.living) told ∙ map-tab (λ (l : LiveArrival). l.arrival) (filed_arrival file) (count_in file) ∙ ap (λ (t : Told). below t.next) (sym told)
