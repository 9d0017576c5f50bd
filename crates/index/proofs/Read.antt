-- Fields of a file, what an accepted reading has passed, and that what is read is sound with rising held order.
use mathlib.Core.Path.{◌≡◌, refl, sym, ap, ap₂, ◌∙◌}
use mathlib.Core.Bool.{Bool, true, false, not, cond, ◌||◌}
use mathlib.Core.List.{List, [], ◌∷◌, map}
use mathlib.Core.Option.{Option, none, some}
use Prim.Native.Nat.{ℕ, zero, suc, ◌+◌, ◌*◌, ◌≤◌, ◌<◌}
use native.Mathlib.Nat.{suc-mul, mul-le-mul_right}
use native.Mathlib.Omega.{arith}
use lib.ListN.{length, take, drop, length-drop}
use lib.Seq.{drop-drop, take-take}
use lib.Dec.{eqb}
use borrow.Author.Tests.{le-leb, ltb-false, eqb-true, eqb-false, ne_eqb}
use Rattle.lists.specs.Lists.{tab}
use Rattle.lists.specs.Keep.{Each}
use Rattle.lists.proofs.Laws.{length-tab}
use Rattle.lists.proofs.Keep.{keep_all}
use Rattle.lists.proofs.Front.{each-tab}
use Rattle.digits.specs.Digits.{number}
use Rattle.encode.specs.Header.{block_size}
use Rattle.index.specs.declared.Index.{Index}
use Rattle.index.specs.Verdict.{Verdict, granted, turned_down}
use Rattle.index.specs.Arrays.{Arrays, unmarked}
use Rattle.index.specs.State.{Mark, dead, unkeyed, keyed, Slot, is_live, live, capacity, state_of, record_of, overlay, with_mark}
use Rattle.index.specs.Fit.{between, fit}
use Rattle.index.specs.Step.{first_of, key_of_mark, one_more, rising, compacted}
use Rattle.index.specs.Sound.{block_length, Shaped, AllShaped, marks, OnceEach, Ranged, Sound}
use Rattle.index.specs.Form.{form_of, stages_at, second_at, keys_at, years_at, end_at}
use Rattle.index.specs.Read.{little_endian, version_in, form_in, dim_in, count_in, working_field, header_in, head_fault, stage_from, well_keyed, key_from, mark_from, first_length, second_length, stages_in, second_in, table_in, entry_count, table_length, years_in, years_length, stated_end, tail_in, entries_in, slot_in, slots_in, state_in, read_refusal, read_into}
use Rattle.index.proofs.Blocks.{length-block}
use Rattle.index.proofs.Fits.{sound-fit, laid-back}
use Rattle.index.proofs.Changes.{once-compacted}
use Rattle.index.proofs.Kept.{first-none, when-none, rising-length, rising-shaped}
use Rattle.index.specs.Make.{begun_unless}

-- ---- fields

-- a number that lies within the first m bytes
pub number_cut : (n k m : ℕ) (file : List ℕ) → k + n ≤ m → little_endian n (drop k (take m file)) ≡ little_endian n (drop k file)
unfolding little_endian
number_cut n zero m file h = ap (number 256) (take-take n m file (omega arith))
number_cut n (suc k) zero file h = absurd (omega arith)
number_cut n (suc k) (suc m) [] h = refl
number_cut n (suc k) (suc m) (x ∷ file) h = number_cut n k m file (omega arith)

-- ---- what was passed

pub all-passed : (ns : List ℕ) → first_of ns ≡ 0 → Each (λ n. n ≡ 0) ns
all-passed [] e = tt
all-passed (n ∷ ns) e = let p = first-none n ns e in (p.0, all-passed ns p.1)

pub or-none : (b c : Bool) → (b || c) ≡ false → (b ≡ false) × (c ≡ false)
or-none true c e = absurd (let z : ◌≡◌ {A = ℕ} 0 1 = cc in omega arith)
or-none false c e = (refl, e)

pub record Accepted (file : List ℕ) (a : Arrays) : Type 0 where
  pub known : (form_in file).known ≡ true
  pub working : working_field file ≤ dim_in file
  pub long : stages_at (form_in file) ≤ length file
  pub width : between 4 6 (header_in file).bits ≡ true
  pub dim-high : dim_in file ≤ 4096
  pub space : count_in file ≤ capacity (header_in file) a
  pub first : first_length file ≤ length (stages_in file)
  pub dim : 1 ≤ dim_in file
  pub second : second_length file ≤ length (second_in file)
  pub table : table_length file ≤ length (table_in file)
  pub years : years_length file ≤ length (years_in file)
  pub keys : well_keyed (count_in file) (map (λ e. e.slot) (entries_in file)) ≡ true

pub not-not : (b : Bool) → not b ≡ false → b ≡ true
not-not true e = refl
not-not false e = sym e

pub accepted : (file : List ℕ) (a : Arrays) → read_refusal file a ≡ 0 → Accepted file a
unfolding read_refusal head_fault
accepted file a e =
    let t = all-passed _ e in
    let h = all-passed _ t.0 in
    let limits = or-none _ _ (when-none _ 19 t.1.0) in
    let rest = or-none _ _ (when-none _ 13 t.1.1.1.1.1.0) in
    let blocks = or-none _ _ rest.0 in
    record {
      known = not-not _ (when-none _ 15 h.1.1.0);
      working = ltb-false (dim_in file) (working_field file) (when-none _ 16 h.1.1.1.0);
      long = ltb-false (length file) _ (when-none _ 13 h.1.1.1.1.0);
      width = not-not _ (when-none _ 17 h.1.1.1.1.1.0);
      dim-high = ltb-false 4096 (dim_in file) limits.0;
      space = ltb-false (capacity (header_in file) a) (count_in file) (when-none _ 19 t.1.1.0);
      first = ltb-false (length (stages_in file)) (first_length file) (when-none _ 13 t.1.1.1.0);
      dim = let z : dim_in file ≡ 0 → ⊥ = eqb-false (dim_in file) 0 (when-none _ 16 t.1.1.1.1.0) in omega arith;
      second = ltb-false (length (second_in file)) (second_length file) blocks.0;
      table = ltb-false (length (table_in file)) (table_length file) blocks.1;
      years = ltb-false (length (years_in file)) (years_length file) rest.1;
      keys = not-not _ (when-none _ 18 t.1.1.1.1.1.1.0);
    }

-- a version with a second stage has no width byte
residual-plain : (v : ℕ) → (form_of v).second ≡ true → (form_of v).width ≡ false
unfolding form_of
residual-plain v e = go (eqb v 260) refl e
  where
    go : (b : Bool) → eqb v 260 ≡ b → (b || eqb v 263) ≡ true → (form_of v).width ≡ false
    go true f g = rw (eqb-true v 260 f)
    go false f g = rw (eqb-true v 263 g)

-- ---- the stated end

module _ (file : List ℕ) where
  abbrev w : ℕ
  w = block_size (header_in file)

  -- each block begins where the layout says
  pub second_at_lem : second_in file ≡ drop (second_at (form_in file) w (count_in file)) file
  second_at_lem = drop-drop (first_length file) (stages_at (form_in file)) file

  pub table_at : table_in file ≡ drop (keys_at (form_in file) w (count_in file)) file
  table_at = ap (drop (second_length file)) second_at_lem ∙ drop-drop (second_length file) (second_at (form_in file) w (count_in file)) file

  pub years-there : years_in file ≡ drop (years_at (form_in file) w (count_in file) (entry_count file)) file
  years-there = ap (drop (table_length file)) table_at ∙ drop-drop (table_length file) (keys_at (form_in file) w (count_in file)) file

  -- what follows the last block begins at the stated end
  pub tail_at : drop (years_length file) (years_in file) ≡ tail_in file
  unfolding end_at
  tail_at = ap (drop (years_length file)) years-there ∙ drop-drop (years_length file) (years_at (form_in file) w (count_in file) (entry_count file)) file

  -- and no accepted file ends before it
  pub end-there : (a : Arrays) → Accepted file a → stated_end file ≤ length file
  unfolding end_at
  end-there a t =
      omega (
        arith,
        t.long,
        t.first,
        t.second,
        t.table,
        t.years,
        length-drop (stages_at (form_in file)) file,
        length-drop (first_length file) (stages_in file),
        length-drop (second_length file) (second_in file),
        length-drop (table_length file) (table_in file),
      )

-- ---- rising order

pub rising-again : (seen : ℕ → ℕ) (ss : List Slot) → rising seen (rising seen ss) ≡ rising seen ss
unfolding rising
rising-again seen [] = refl
rising-again seen (s ∷ ss) = go s.mark (λ next. rising-again next ss)
  where
    go : (m : Mark) → ((next : ℕ → ℕ) → rising next (rising next ss) ≡ rising next ss) →
        rising seen (rising seen (with_mark s m ∷ ss)) ≡ rising seen (with_mark s m ∷ ss)
    go (dead u) ih = rw (ih seen)
    go (unkeyed u) ih = rw (ih seen)
    go (keyed k p) ih = rw (ih (one_more k seen))

-- what holds of a mark whatever its position is kept
rising-each : (P : Mark → Type 0) → ((k p q : ℕ) → P (keyed k p) → P (keyed k q)) → (seen : ℕ → ℕ) (ss : List Slot) →
    Each (λ s. P s.mark) ss → Each (λ s. P s.mark) (rising seen ss)
unfolding rising
rising-each P any seen [] h = tt
rising-each P any seen (s ∷ ss) h = go s.mark h.0 (λ next. rising-each P any next ss h.1)
  where
    go : (m : Mark) → P m → ((next : ℕ → ℕ) → Each (λ s. P s.mark) (rising next ss)) →
        Each (λ s. P s.mark) (rising seen (with_mark s m ∷ ss))
    go (dead u) e ih = (e, ih seen)
    go (unkeyed u) e ih = (e, ih seen)
    go (keyed k p) e ih = (any k p (seen k) e, ih (one_more k seen))

-- ---- each slot is live, and the key word of one without a key is 0

abbrev pub unkeyed_word : Mark → ℕ
unkeyed_word (dead u) = 0
unkeyed_word (unkeyed u) = u
unkeyed_word (keyed k p) = 0

mark-live : (o : Option ℕ) → is_live (mark_from o) ≡ true
mark-live none = refl
mark-live (some k) = refl

pub mark-key : (o : Option ℕ) → key_of_mark (mark_from o) ≡ o
mark-key none = refl
mark-key (some k) = refl

mark-word : (o : Option ℕ) → unkeyed_word (mark_from o) ≡ 0
mark-word none = refl
mark-word (some k) = refl

-- ---- the value

module _ (file : List ℕ) where
  -- the slots before their positions rise
  abbrev pub loose : List Slot
  loose = tab (slot_in file) (count_in file)

  pub loose-live : Each (λ s. live s ≡ true) loose
  unfolding slot_in
  loose-live = each-tab (λ s. live s ≡ true) (slot_in file) (count_in file) (λ i l. mark-live (key_from (entries_in file) i))

  -- all slots that are read are live, and there are as many as the file says
  pub read_live : Each (λ s. live s ≡ true) (slots_in file)
  unfolding slots_in
  read_live = rising-each (λ m. is_live m ≡ true) (λ k p q e. e) (λ k. 0) loose loose-live

  pub read-words : Each (λ s. unkeyed_word s.mark ≡ 0) (slots_in file)
  unfolding slots_in slot_in
  read-words =
      rising-each (λ m. unkeyed_word m ≡ 0) (λ k p q e. e) (λ k. 0) loose
      (each-tab (λ s. unkeyed_word s.mark ≡ 0) (slot_in file) (count_in file) (λ i l. mark-word (key_from (entries_in file) i)))

  pub read_length : length (slots_in file) ≡ count_in file
  unfolding slots_in
  read_length = rising-length (λ k. 0) loose ∙ length-tab (slot_in file) (count_in file)

  -- held order rises by slot
  pub read-rises : rising (λ k. 0) (slots_in file) ≡ slots_in file
  unfolding slots_in
  read-rises = rising-again (λ k. 0) loose

  read-once : OnceEach (marks (slots_in file))
  unfolding slots_in compacted
  read-once = rw (keep_all live loose loose-live) at (once-compacted loose)

  module _ (a : Arrays) (t : Accepted file a) where
    header-ranged : Ranged (header_in file)
    unfolding header_in form_of
    header-ranged =
        record {
          dim = rw (le-leb 1 (dim_in file) t.dim, le-leb (dim_in file) 4096 t.dim-high);
          working_dim = go (working_field file) t.working;
          bits = t.width;
          residual = plain (form_in file).second refl;
        }
      where
        go : (f : ℕ) → f ≤ dim_in file → between 1 (dim_in file) (cond (eqb f 0) (dim_in file) f) ≡ true
        go zero l = rw (le-leb 1 (dim_in file) t.dim) (le-leb (dim_in file) (dim_in file) (omega arith))
        go (suc f) l = rw (ne_eqb (suc f) 0 (λ e. absurd (omega arith)), le-leb 1 (suc f) (omega arith)) (le-leb (suc f) (dim_in file) l)

        plain : (b : Bool) → (form_in file).second ≡ b → (not b || eqb (header_in file).bits 4) ≡ true
        plain true e = rw (residual-plain (version_in file) e)
        plain false e = refl

    stage-sized : (bytes : List ℕ) → first_length file ≤ length bytes → (i : ℕ) → i < count_in file →
        length (stage_from (block_size (header_in file)) (count_in file) bytes i).block ≡ block_size (header_in file)
    unfolding stage_from
    stage-sized bytes l i k =
        let w : ℕ = block_size (header_in file) in
        let m : suc i * w ≤ count_in file * w = mul-le-mul_right w k in
        length-block w i (drop (count_in file * 2) bytes)
        (rw (length-drop (count_in file * 2) bytes) (omega (arith, suc-mul i w)))

    loose-shaped : AllShaped (header_in file) loose
    unfolding slot_in header_in
    loose-shaped =
        each-tab (λ s. Shaped (header_in file) s.code) (slot_in file) (count_in file)
        (λ i l. record { first = stage-sized (stages_in file) t.first i l; second = go (form_in file).second i l t.second })
      where
        go : (b : Bool) (i : ℕ) → i < count_in file → cond b (first_length file) 0 ≤ length (second_in file) →
            block_length (cond b (some (stage_from (block_size (header_in file)) (count_in file) (second_in file) i)) none) ≡ cond b (some (block_size (header_in file))) none
        go true i l k = ap some (stage-sized (second_in file) k i l)
        go false i l k = refl

    pub read-sound : Sound (capacity (header_in file) a) (state_in file)
    unfolding state_in slots_in
    read-sound =
        record {
          header = header-ranged;
          space = rw read_length t.space;
          shape = rising-shaped (header_in file) (λ k. 0) loose loose-shaped;
          positions = read-once;
        }

-- ---- an accepted reading

abbrev pub record_in : Index → Verdict Index → Index
record_in d (granted y) = y
record_in d (turned_down n) = d

abbrev pub is_made : Verdict Index → ℕ
is_made (granted y) = 1
is_made (turned_down n) = 0

module _ (a : Arrays) (file : List ℕ) where
  -- the record is that of the value read, which is written over the arrays
  pub record ReadAs (x : Index) : Type 0 where
    pub passed : Accepted file a
    pub record_is : x ≡ record_of (state_in file)
    pub arrays-are : (read_into a file).arrays ≡ overlay (unmarked a) (slots_in file)

  pub read-accepted : (x : Index) → (read_into a file).answer ≡ granted x → ReadAs x
  unfolding read_into
  read-accepted x e = go (read_refusal file a) refl e
    where
      go : (n : ℕ) → read_refusal file a ≡ n → (begun_unless n (record_of (state_in file)) a (overlay (unmarked a) (slots_in file))).answer ≡ granted x → ReadAs x
      go zero f g = record { passed = accepted file a f; record_is = sym (ap (record_in x) g); arrays-are = ap (λ (m : ℕ). (begun_unless m (record_of (state_in file)) a (overlay (unmarked a) (slots_in file))).arrays) f }
      go (suc n) f g = absurd (omega (arith, ap is_made g))

  module _ (x : Index) (e : (read_into a file).answer ≡ granted x) where
    -- record and arrays fit
    pub read_fits : fit x (read_into a file).arrays ≡ true
    unfolding state_in
    read_fits =
        let r = read-accepted x e in
        ap₂ fit r.record_is r.arrays-are ∙ sound-fit (state_in file) a (read-sound file a r.passed)

    -- their value is what the file says, whatever the arrays held
    pub read-value : state_of x (read_into a file).arrays ≡ state_in file
    unfolding state_in
    read-value =
        let r = read-accepted x e in
        let t = read-sound file a r.passed in
        ap₂ state_of r.record_is r.arrays-are ∙ laid-back (state_in file) a t.shape t.space
