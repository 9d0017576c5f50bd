-- No misfit, as a property of the value: a record and arrays that fit are those of their value, whose parts are sound; and a sound value fits.
use mathlib.Core.Path.{◌≡◌, refl, sym, ap, ap₂, ◌∙◌, subst}
use mathlib.Core.Bool.{Bool, true, false, not, cond, ◌||◌}
use mathlib.Core.List.{List, [], ◌∷◌, map, map-map}
use mathlib.Core.Option.{none, some}
use mathlib.Core.Logic.{◌↔◌}
use Prim.Native.Nat.{ℕ, zero, suc, ◌+◌, ◌-◌, ◌*◌, ◌≤◌, ◌<◌}
use native.Mathlib.Nat.{suc-mul, mul-le-mul_right}
use native.Mathlib.Omega.{arith}
use lib.ListN.{length, get_or, drop, length-drop, length-map, get_or-eq_default}
use lib.Seq.{get_or-drop}
use native.Mathlib.Decide.{dec_lt}
use lib.Dec.{T, leb, eqb}
use borrow.Author.Tests.{leb-true, le-leb, eqb-true, eq-eqb}
use Rattle.lists.specs.Lists.{tab, over, joined}
use Rattle.marks.specs.Live.{no_marks}
use Rattle.lists.specs.Keep.{bit, count, Each, all, every}
use Rattle.lists.proofs.Laws.{length-tab, tab-ext, get_or-tab}
use Rattle.lists.proofs.Keep.{count-append, count_map, count_same, each-mem, each-get_or}
use Rattle.lists.proofs.Front.{over-ext, over-own, get_or-rest, each_at, map-tab, tab-map, get_or-over-map, each_map, map_each, each-tab, tab-each}
use Rattle.encode.specs.declared.Header.{Header}
use Rattle.encode.specs.Header.{block_size}
use Rattle.codes.specs.Stage.{Stage}
use Rattle.codes.specs.Slots.{block_at}
use Rattle.index.specs.declared.Index.{Index}
use Rattle.index.specs.Arrays.{Arrays, unmarked}
use Rattle.index.specs.State.{Mark, dead, unkeyed, keyed, Slot, State, is_live, live, header_of, capacity, mark_of, stage_at, slot_at, state_of, record_of, alive_of, has_key, key_word, position, seconds, scales_of, blocks_of, overlay, with_counts}
use Rattle.index.specs.Fit.{Row, row_at, rows, positioned, fit_by_mark, none_from, fit}
use Rattle.index.specs.Sound.{block_length, Shaped, AllShaped, marks, OnceEach, Ranged, Sound}
use Rattle.index.proofs.Blocks.{over-blocks, length-block}
use Rattle.index.proofs.Overlay.{roomy, second_of, plain-seconds, residual-seconds, overlay-capacity, unmarked-capacity, read_back}
use Rattle.lists.proofs.Tests.{and_left, and_right}
use Rattle.index.proofs.Marks.{row_of, once-positioned, positioned-once}

-- ---- the tests one by one

module _ {A : Type 0} (p : A → Bool) where
  pub all-each : (xs : List A) → all p xs ≡ true → Each (λ x. p x ≡ true) xs
  unfolding all
  all-each [] e = tt
  all-each (x ∷ xs) e = (and_left (p x) (all p xs) e, all-each xs (and_right (p x) (all p xs) e))

  pub each_all : (xs : List A) → Each (λ x. p x ≡ true) xs → all p xs ≡ true
  unfolding all
  each_all [] h = refl
  each_all (x ∷ xs) h = rw (h.0, each_all xs h.1)

every-each : (ts : List Bool) → every ts ≡ true → Each (λ t. t ≡ true) ts
unfolding every
every-each [] e = tt
every-each (t ∷ ts) e = (and_left t (every ts) e, every-each ts (and_right t (every ts) e))

each-every : (ts : List Bool) → Each (λ t. t ≡ true) ts → every ts ≡ true
unfolding every
each-every [] h = refl
each-every (t ∷ ts) h = rw (h.0, each-every ts h.1)

-- what `fit` tests, named
pub record Fitting (x : Index) (a : Arrays) : Type 0 where
  pub header : Ranged (header_of x)
  pub space : x.n ≤ capacity (header_of x) a
  pub alive : Each (λ r. leb r.alive 1 ≡ true) (rows x a)
  pub live : x.live ≡ count (λ r. eqb r.alive 1) (rows x a)
  pub keyed : Each (λ r. (not r.keyed || eqb r.alive 1) ≡ true) (rows x a)
  pub positions : Each (λ r. positioned (rows x a) r ≡ true) (rows x a)
  pub clear : none_from x.n a.alive ≡ true

module _ (x : Index) (a : Arrays) where
  pub fitting : fit x a ≡ true → Fitting x a
  unfolding fit fit_by_mark
  fitting e =
      let t = every-each _ (and_left (fit_by_mark x a) (none_from x.n a.alive) e) in
      record {
        header = record { dim = t.0; working_dim = t.1.0; bits = t.1.1.0; residual = t.1.1.1.0 };
        space = leb-true x.n (capacity (header_of x) a) t.1.1.1.1.0;
        alive = all-each (λ r. leb r.alive 1) (rows x a) t.1.1.1.1.1.0;
        live = eqb-true x.live (count (λ r. eqb r.alive 1) (rows x a)) t.1.1.1.1.1.1.0;
        keyed = all-each (λ r. not r.keyed || eqb r.alive 1) (rows x a) t.1.1.1.1.1.1.1.0;
        positions = all-each (positioned (rows x a)) (rows x a) t.1.1.1.1.1.1.1.1.0;
        clear = and_right (fit_by_mark x a) (none_from x.n a.alive) e;
      }

  by-mark : Fitting x a → fit_by_mark x a ≡ true
  unfolding fit_by_mark
  by-mark f =
      each-every _ (
        f.header.dim,
        (
          f.header.working_dim,
          (
            f.header.bits,
            (
              f.header.residual,
              (
                le-leb x.n (capacity (header_of x) a) f.space,
                (
                  each_all (λ r. leb r.alive 1) (rows x a) f.alive,
                  (
                    eq-eqb x.live (count (λ r. eqb r.alive 1) (rows x a)) f.live,
                    (each_all (λ r. not r.keyed || eqb r.alive 1) (rows x a) f.keyed, (each_all (positioned (rows x a)) (rows x a) f.positions, tt)),
                  ),
                ),
              ),
            ),
          ),
        ),
      )

  pub fitting-fit : Fitting x a → fit x a ≡ true
  unfolding fit
  fitting-fit f = rw (by-mark f, f.clear)

-- ---- no mark past the slots in use

module _ (n : ℕ) (ms : List ℕ) where
  pub none-past : none_from n ms ≡ true → (i : ℕ) → n ≤ i → get_or ms i 0 ≡ 0
  unfolding none_from
  none-past e i l =
      elim (dec_lt i (length ms)) [
        | yes k ↦
            let j : n + (i - n) ≡ i = omega arith in
            let t = each_at (λ m. eqb 0 m ≡ true) (drop n ms) (i - n) 0 (all-each (eqb 0) (drop n ms) e) (rw (length-drop n ms) (omega arith)) in
            ap (λ (m : ℕ). get_or ms m 0) (sym j) ∙ sym (get_or-drop n ms (i - n) 0) ∙ sym (eqb-true 0 (get_or (drop n ms) (i - n) 0) t)
        | no k ↦ get_or-eq_default ms 0 {n = i} (omega arith)
      ]

  pub past-none : ((i : ℕ) → n ≤ i → get_or ms i 0 ≡ 0) → none_from n ms ≡ true
  unfolding none_from
  past-none h =
      each_all (eqb 0) (drop n ms)
      (each-get_or (λ m. eqb 0 m ≡ true) 0 (drop n ms) (λ i l. eq-eqb 0 (get_or (drop n ms) i 0) (sym (get_or-drop n ms i 0 ∙ h (n + i) (omega arith)))))

-- marks laid over none: none is set past them
pub none_over : (ys ms : List ℕ) → none_from (length ys) (over ys (no_marks ms)) ≡ true
none_over ys ms = past-none (length ys) (over ys (no_marks ms)) (λ i l. get_or-rest ys (no_marks ms) i 0 l ∙ unset i)
  where
    unset : (i : ℕ) → get_or (no_marks ms) i 0 ≡ 0
    unset i =
        elim (dec_lt i (length ms)) [
          | yes k ↦ get_or-tab (λ j. 0) (length ms) i 0 k
          | no k ↦ get_or-eq_default (no_marks ms) 0 {n = i} (rw (length-tab {A = ℕ} (λ j. 0) (length ms)) (omega arith))
        ]

-- ---- the value of arrays with room, and its slots' shape

module _ (h : Header) (a : Arrays) (n : ℕ) (space : n ≤ capacity h a) where
  abbrev slots : List Slot
  slots = tab (slot_at h a) n

  -- a block that the arrays have
  block_size_lem : (codes : List ℕ) → n * block_size h ≤ length codes → (i : ℕ) → i < n → length (block_at (block_size h) i codes) ≡ block_size h
  block_size_lem codes r i l =
      let m : suc i * block_size h ≤ n * block_size h = mul-le-mul_right (block_size h) l in
      length-block (block_size h) i codes (omega (arith, suc-mul i (block_size h)))

  pub slots-shaped : AllShaped h slots
  unfolding slot_at
  slots-shaped = each-tab (λ s. Shaped h s.code) (slot_at h a) n (λ i l. record { first = block_size_lem a.codes (roomy n h a space).codes i l; second = go i l h.residual refl })
    where
      go : (i : ℕ) → i < n → (b : Bool) → h.residual ≡ b → block_length (cond b (some (stage_at h a.scales2 a.codes2 i)) none) ≡ cond b (some (block_size h)) none
      go i l true e = ap some (block_size_lem a.codes2 ((roomy n h a space).codes2 e) i l)
      go i l false e = refl

  -- stages over the arrays that they were read from
  module _ (gs : List Stage) (scales codes : List ℕ) (e : gs ≡ tab (stage_at h scales codes) n) where
    own-scales : n ≤ length scales → over (scales_of gs) scales ≡ scales
    own-scales l = rw (e, map-tab (λ (g : Stage). g.scale) (stage_at h scales codes) n) (over-own (λ i. get_or scales i 0) n 0 scales l (λ i k. refl))

    own-blocks : n * block_size h ≤ length codes → over (blocks_of gs) codes ≡ codes
    own-blocks l = rw (e, map-tab (λ (g : Stage). g.block) (stage_at h scales codes) n) (over-blocks (block_size h) n codes l)

  own-firsts : map (λ s. s.code.first) slots ≡ tab (stage_at h a.scales a.codes) n
  unfolding slot_at
  own-firsts = map-tab (λ (s : Slot). s.code.first) (slot_at h a) n

  own-seconds : h.residual ≡ true → seconds slots ≡ tab (stage_at h a.scales2 a.codes2) n
  unfolding slot_at
  own-seconds e =
      residual-seconds h e slots slots-shaped ∙ map-tab second_of (slot_at h a) n ∙
      tab-ext (λ i. second_of (slot_at h a i)) (stage_at h a.scales2 a.codes2) n (λ i l. rw e)

  -- a part of each slot's mark over the array that it was read from
  own-marks : {B : Type 0} (g : Mark → B) (xs : List B) (d : B) → n ≤ length xs → ((i : ℕ) → i < n → g (slot_at h a i).mark ≡ get_or xs i d) →
      over (map (λ s. g s.mark) slots) xs ≡ xs
  own-marks g xs d l e = rw (map-tab (λ (s : Slot). g s.mark) (slot_at h a) n) (over-own (λ i. g (slot_at h a i).mark) n d xs l e)

-- ---- a mark that passes the tests has the parts that it was read from

record Own (l : ℕ) (on : Bool) (k p : ℕ) : Type 0 where
  alive : alive_of (mark_of l on k p) ≡ l
  live : is_live (mark_of l on k p) ≡ eqb l 1
  word : key_word (mark_of l on k p) ≡ k
  keyed : has_key (mark_of l on k p) ≡ on
  held : position (mark_of l on k p) ≡ p

own : (l : ℕ) (on : Bool) (k p : ℕ) (rs : List Row) → leb l 1 ≡ true → (not on || eqb l 1) ≡ true → positioned rs (record { key = k; keyed = on; held = p; alive = l }) ≡ true → Own l on k p
unfolding positioned
own zero false k p rs e g t = record { alive = refl; live = refl; word = refl; keyed = refl; held = sym (eqb-true p 0 t) }
own zero true k p rs e g t = absurd (subst T (sym g) tt)
own (suc zero) false k p rs e g t = record { alive = refl; live = refl; word = refl; keyed = refl; held = sym (eqb-true p 0 t) }
own (suc zero) true k p rs e g t = record { alive = refl; live = refl; word = refl; keyed = refl; held = refl }
own (suc (suc l)) on k p rs e g t = absurd (omega (arith, leb-true (suc (suc l)) 1 e))

count-tab : {X Y : Type 0} (p : X → Bool) (q : Y → Bool) (f : ℕ → X) (g : ℕ → Y) (n : ℕ) → ((i : ℕ) → i < n → p (f i) ≡ q (g i)) → count p (tab f n) ≡ count q (tab g n)
count-tab p q f g zero e = refl
count-tab p q f g (suc n) e =
    omega (arith, count-append p (tab f n) (f n ∷ []), count-append q (tab g n) (g n ∷ []), count-tab p q f g n (λ i l. e i (omega arith)), ap bit (e n (omega arith)))

-- ---- a record and arrays that fit are those of their value

module _ (x : Index) (a : Arrays) (f : Fitting x a) where
  abbrev head : Header
  head = header_of x

  own_at : (i : ℕ) → i < x.n → Own (get_or a.alive i 0) (get_or a.keyed i false) (get_or a.keys i 0) (get_or a.held i 0)
  unfolding row_at
  own_at i l =
      own (get_or a.alive i 0) (get_or a.keyed i false) (get_or a.keys i 0) (get_or a.held i 0) (rows x a)
      (tab-each (λ r. leb r.alive 1 ≡ true) (row_at a) x.n f.alive i l)
      (tab-each (λ r. (not r.keyed || eqb r.alive 1) ≡ true) (row_at a) x.n f.keyed i l)
      (tab-each (λ r. positioned (rows x a) r ≡ true) (row_at a) x.n f.positions i l)

  -- its own marks over none
  own-alive : over (map (λ s. alive_of s.mark) (slots head a x.n f.space)) (no_marks a.alive) ≡ a.alive
  unfolding slot_at
  own-alive =
      let room : x.n ≤ length a.alive = (roomy x.n head a f.space).alive in
      let long : length (no_marks a.alive) ≡ length a.alive = length-tab (λ i. 0) (length a.alive) in
      rw (map-tab (λ (s : Slot). alive_of s.mark) (slot_at head a) x.n)
      (sym (over-ext (λ i. alive_of (slot_at head a i).mark) x.n 0 (no_marks a.alive) a.alive (omega (arith, long, room)) (sym long)
      (λ i l. sym (own_at i l).alive)
      (λ i l k. none-past x.n a.alive f.clear i l ∙ sym (get_or-tab (λ j. 0) (length a.alive) i 0 (omega (arith, long, k))))))

  own-years : over (map (λ s. s.year) (slots head a x.n f.space)) a.years ≡ a.years
  unfolding slot_at
  own-years =
      rw (map-tab (λ (s : Slot). s.year) (slot_at head a) x.n)
      (over-own (λ i. get_or a.years i 0) x.n 0 a.years (roomy x.n head a f.space).years (λ i l. refl))

  overlay-own : overlay (unmarked a) (state_of x a).slots ≡ a
  unfolding overlay state_of slot_at row_at over joined
  overlay-own =
      let r = roomy x.n head a f.space in
      λ j. record {
        codes = own-blocks head a x.n f.space _ a.scales a.codes (own-firsts head a x.n f.space) r.codes j;
        scales = own-scales head a x.n f.space _ a.scales a.codes (own-firsts head a x.n f.space) r.scales j;
        keys = own-marks head a x.n f.space key_word a.keys 0 r.keys (λ i l. (own_at i l).word) j;
        keyed = own-marks head a x.n f.space has_key a.keyed false r.keyed (λ i l. (own_at i l).keyed) j;
        held = own-marks head a x.n f.space position a.held 0 r.held (λ i l. (own_at i l).held) j;
        alive = own-alive j;
        codes2 = codes2 x.residual refl j;
        scales2 = scales2 x.residual refl j;
        years = own-years j;
      }
    where
      codes2 : (b : Bool) → x.residual ≡ b → over (blocks_of (seconds (slots head a x.n f.space))) a.codes2 ≡ a.codes2
      codes2 true e = own-blocks head a x.n f.space _ a.scales2 a.codes2 (own-seconds head a x.n f.space e) ((roomy x.n head a f.space).codes2 e)
      codes2 false e = rw (plain-seconds head e (slots head a x.n f.space) (slots-shaped head a x.n f.space))

      scales2 : (b : Bool) → x.residual ≡ b → over (scales_of (seconds (slots head a x.n f.space))) a.scales2 ≡ a.scales2
      scales2 true e = own-scales head a x.n f.space _ a.scales2 a.codes2 (own-seconds head a x.n f.space e) ((roomy x.n head a f.space).scales2 e)
      scales2 false e = rw (plain-seconds head e (slots head a x.n f.space) (slots-shaped head a x.n f.space))

  record-own : record_of (state_of x a) ≡ x
  unfolding record_of state_of slot_at row_at
  record-own =
      λ j. with_counts x (length-tab (slot_at head a) x.n j) ((count-tab live (λ r. eqb r.alive 1) (slot_at head a) (row_at a) x.n (λ i l. (own_at i l).live) ∙ sym f.live) j) x.cascade

-- ---- the rows of a value written over arrays

rows_back : (s : State) (a : Arrays) → rows (record_of s) (overlay a s.slots) ≡ map row_of (marks s.slots)
unfolding record_of row_at overlay
rows_back s a =
    let ss = s.slots in
    tab-map (λ (t : Slot). row_of t.mark) (row_at (overlay a ss)) ss
    (λ i d l j. record {
      key = get_or-over-map (λ (t : Slot). key_word t.mark) ss a.keys i d 0 l j;
      keyed = get_or-over-map (λ (t : Slot). has_key t.mark) ss a.keyed i d false l j;
      held = get_or-over-map (λ (t : Slot). position t.mark) ss a.held i d 0 l j;
      alive = get_or-over-map (λ (t : Slot). alive_of t.mark) ss a.alive i d 0 l j;
    }) ∙ sym (map-map row_of (λ (t : Slot). t.mark) ss)

mark-alive : (m : Mark) → leb (alive_of m) 1 ≡ true
mark-alive (dead u) = refl
mark-alive (unkeyed u) = refl
mark-alive (keyed k p) = refl

mark-live : (m : Mark) → is_live m ≡ eqb (alive_of m) 1
mark-live (dead u) = refl
mark-live (unkeyed u) = refl
mark-live (keyed k p) = refl

mark-keyed : (m : Mark) → (not (has_key m) || eqb (alive_of m) 1) ≡ true
mark-keyed (dead u) = refl
mark-keyed (unkeyed u) = refl
mark-keyed (keyed k p) = refl

-- ---- the laws

pub overlay-self : (x : Index) (a : Arrays) → fit x a ≡ true → overlay (unmarked a) (state_of x a).slots ≡ a
overlay-self x a e = overlay-own x a (fitting x a e)

pub record-self : (x : Index) (a : Arrays) → fit x a ≡ true → record_of (state_of x a) ≡ x
record-self x a e = record-own x a (fitting x a e)

-- no misfit: the value is sound
pub fit-sound : (x : Index) (a : Arrays) → fit x a ≡ true → Sound (capacity (header_of x) a) (state_of x a)
unfolding state_of
fit-sound x a e =
    let f = fitting x a e in
    let same : rows x a ≡ map row_of (marks (state_of x a).slots) = ap₂ rows (sym (record-self x a e)) (sym (overlay-self x a e)) ∙ rows_back (state_of x a) (unmarked a) in
    record {
      header = f.header;
      space = rw (length-tab (slot_at (header_of x) a) x.n) f.space;
      shape = slots-shaped (header_of x) a x.n f.space;
      positions =
          positioned-once (marks (state_of x a).slots)
          (map_each (λ r. positioned (map row_of (marks (state_of x a).slots)) r ≡ true) row_of (marks (state_of x a).slots)
          (subst (λ (rs : List Row). Each (λ r. positioned rs r ≡ true) rs) same f.positions));
    }

-- a value laid over arrays in which no slot is marked: no mark is set past its slots
pub none-laid : (s : State) (a : Arrays) → none_from (record_of s).n (overlay (unmarked a) s.slots).alive ≡ true
unfolding record_of overlay
none-laid s a =
    subst (λ (n : ℕ). none_from n (over (map (λ t. alive_of t.mark) s.slots) (no_marks a.alive)) ≡ true) (length-map s.slots (λ t. alive_of t.mark))
    (none_over (map (λ t. alive_of t.mark) s.slots) a.alive)

-- and it is read back
pub laid-back : (s : State) (a : Arrays) → AllShaped s.header s.slots → length s.slots ≤ capacity s.header a →
    state_of (record_of s) (overlay (unmarked a) s.slots) ≡ s
laid-back s a shape space = read_back s (unmarked a) shape (rw (unmarked-capacity s.header a) space)

-- a sound value fits
pub sound-fit : (s : State) (a : Arrays) → Sound (capacity s.header a) s → fit (record_of s) (overlay (unmarked a) s.slots) ≡ true
unfolding record_of
sound-fit s a t =
    let ms = marks s.slots in
    let room : length s.slots ≤ capacity s.header (unmarked a) = rw (unmarked-capacity s.header a) t.space in
    fitting-fit (record_of s) (overlay (unmarked a) s.slots)
    (record {
      header = t.header;
      space = rw (overlay-capacity s.header (unmarked a) s.slots t.shape room) room;
      alive = rw (rows_back s (unmarked a)) (each_map (λ r. leb r.alive 1 ≡ true) row_of ms (each-mem (λ m. leb (alive_of m) 1 ≡ true) ms (λ m e. mark-alive m)));
      live =
          rw (rows_back s (unmarked a))
          (count_same live (λ (u : Slot). eqb (alive_of u.mark) 1) s.slots (each-mem (λ (u : Slot). live u ≡ eqb (alive_of u.mark) 1) s.slots (λ u e. mark-live u.mark))
          ∙ sym (count_map row_of (λ r. eqb r.alive 1) ms ∙ count_map (λ (u : Slot). u.mark) (λ m. eqb (alive_of m) 1) s.slots));
      keyed = rw (rows_back s (unmarked a)) (each_map (λ r. (not r.keyed || eqb r.alive 1) ≡ true) row_of ms (each-mem (λ m. (not (has_key m) || eqb (alive_of m) 1) ≡ true) ms (λ m e. mark-keyed m)));
      positions = rw (rows_back s (unmarked a)) (each_map (λ r. positioned (map row_of ms) r ≡ true) row_of ms (once-positioned ms t.positions));
      clear = none-laid s a;
    })

-- For slots of the header's shape and arrays with room for them, no misfit means a header in range and positions once each.
pub fit-value : (s : State) (a : Arrays) → AllShaped s.header s.slots → length s.slots ≤ capacity s.header a →
    (fit (record_of s) (overlay (unmarked a) s.slots) ≡ true) ↔ (Ranged s.header × OnceEach (marks s.slots))
fit-value s a shape space = (only, λ r. sound-fit s a (record { header = r.0; space = space; shape = shape; positions = r.1 }))
  where
    only : fit (record_of s) (overlay (unmarked a) s.slots) ≡ true → Ranged s.header × OnceEach (marks s.slots)
    only e =
        let t = fit-sound (record_of s) (overlay (unmarked a) s.slots) e in
        let b = laid-back s a shape space in
        (subst (λ (u : State). Ranged u.header) b t.header, subst (λ (u : State). OnceEach (marks u.slots)) b t.positions)
