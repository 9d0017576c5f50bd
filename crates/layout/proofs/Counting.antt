-- The file of the first slots, by their counts: for every number of slots, as a walk over them meets it.
use mathlib.Core.Path.{◌≡◌, refl, sym, ap, ap₂, ◌∙◌}
use mathlib.Core.Bool.{Bool, true, false, not, ◌&&◌}
use mathlib.Core.Logic.{⊎_elim}
use mathlib.Core.List.{List, [], ◌∷◌, map, map-map}
use Prim.Native.Nat.{ℕ, zero, suc, ◌+◌, ◌≤◌, ◌<◌, min}
use native.Mathlib.Nat.{eq-or-lt_of_le, zero-add}
use native.Mathlib.Numerals.{add-one}
use native.Mathlib.Omega.{arith}
use lib.ListN.{length, get_or, length-map, get_or-eq_default}
use lib.Dec.{ltb, eqb}
use borrow.Author.Tests.{lt-ltb}
use Rattle.lists.specs.Lists.{tab, below}
use Rattle.lists.specs.Keep.{bit, all, keep, count, Each}
use Rattle.lists.proofs.Laws.{length-tab, get_d_default}
use Rattle.lists.proofs.Keep.{count-length, count_map, count_same, count-keep-implied, length-keep, each_keep, each-kept, each_both, each_weaken}
use Rattle.lists.proofs.Front.{each_map, each-tab, tab-each, count_past}
use Rattle.encode.specs.declared.Header.{Header}
use Rattle.encode.specs.Header.{block_size}
use Rattle.index.specs.declared.Index.{Index}
use Rattle.index.specs.Arrays.{Arrays}
use Rattle.index.specs.State.{live, header_of, capacity, mark_of, slot_at, state_of}
use Rattle.index.specs.Fit.{fit}
use Rattle.index.specs.Form.{form_of, end_at}
use Rattle.index.specs.File.{Entry, no_duty, version_with, version_of, file_of}
use Rattle.index.specs.Step.{live_from, key_of_mark, entry_of, file_bytes, file_length, size, answered, step}
use Rattle.index.specs.Call.{call}
use Rattle.index.specs.Answers.{result_of}
use Rattle.index.specs.Sound.{Shaped}
use Rattle.index.proofs.Fits.{slots-shaped}
use Rattle.index.proofs.Calls.{call-answered}
use Rattle.index.proofs.Marks.{mark-live}
use Rattle.positions.proofs.Slots.{count-last}
use Rattle.fit.specs.Fits.{Fits}
use Rattle.fit.proofs.Rooms.{enough, in-width}
use Rattle.fit.proofs.Meaning.{meaning}
use Rattle.held.proofs.Live.{cell_at, live-tab}
use Rattle.codes.specs.Writing.{at_width}
use Rattle.layout.specs.declared.Counts.{Counts}
use Rattle.marks.specs.Live.{live_at}
use Rattle.layout.specs.Counts.{is_dated, entry_at, dated_at, counts_of}
use Rattle.layout.proofs.Length.{has_one, file-length}
use Rattle.layout.proofs.Numbers.{small-block}

-- ---- one slot more

pub count-one : (p : ℕ → Bool) (i : ℕ) → count p (below (i + 1)) ≡ count p (below i) + bit (p i)
count-one p i = rw (add-one i) (count-last p (λ j. j) i)

pub count-few : (p : ℕ → Bool) (n : ℕ) → count p (below n) ≤ n
count-few p n = omega (arith, count-length p (below n), length-tab (λ (i : ℕ). i) n)

-- ---- past the end of `alive` all slots are dead

module _ (keyed : List Bool) (years alive : List ℕ) (i n : ℕ) (end : length alive ≤ i) (l : i ≤ n) where
  past-dead : (j : ℕ) → i ≤ j → live_at alive j ≡ false
  past-dead j m =
      let beyond : length alive ≤ j = omega (arith, end, m) in
      rw (get_or-eq_default alive 0 beyond)

  pub counts_end : counts_of keyed years alive i ≡ counts_of keyed years alive n
  unfolding counts_of
  counts_end =
      λ t. record {
        live = sym (count_past (live_at alive) i past-dead n l) t;
        keyed = sym (count_past (entry_at keyed alive) i (λ j m. ap (λ (b : Bool). b && get_or keyed j false) (past-dead j m)) n l) t;
        dated = sym (count_past (dated_at years alive) i (λ j m. ap (λ (b : Bool). b && is_dated (get_or years j 1)) (past-dead j m)) n l) t;
      }

-- so the slots that there are make the counts of all
pub counts-there : (keyed : List Bool) (years alive : List ℕ) (n : ℕ) → counts_of keyed years alive (min n (length alive)) ≡ counts_of keyed years alive n
counts-there keyed years alive n =
    let few : min n (length alive) ≤ n = omega arith in
    ⊎_elim
    (λ (e : min n (length alive) ≡ n). ap (counts_of keyed years alive) e)
    (λ (l : min n (length alive) < n). counts_end keyed years alive (min n (length alive)) n (omega arith) few)
    (eq-or-lt_of_le few)

-- ---- marks

mark-entry : (m : ℕ) (on : Bool) (k p : ℕ) → has_one (key_of_mark (mark_of m on k p)) ≡ (ltb 0 m && on)
mark-entry zero on k p = refl
mark-entry (suc m) true k p = rw (lt-ltb 0 (suc m) (omega arith))
mark-entry (suc m) false k p = rw (lt-ltb 0 (suc m) (omega arith))

and_first : (b c : Bool) → (b && c) ≡ true → b ≡ true
and_first true c e = refl
and_first false c e = e

-- ---- years

some-dated : (es : List Entry) → ltb 0 (count (λ e. is_dated e.year) es) ≡ not (no_duty es)
unfolding all
some-dated [] = refl
some-dated (e ∷ es) = go (eqb e.year 1) (some-dated es)
  where
    go : (b : Bool) → ltb 0 (count (λ e. is_dated e.year) es) ≡ not (no_duty es) → ltb 0 (bit (not b) + count (λ e. is_dated e.year) es) ≡ not (b && no_duty es)
    go true ih = rw (zero-add (count (λ e. is_dated e.year) es)) ih
    go false ih = lt-ltb 0 (1 + count (λ e. is_dated e.year) es) (omega arith)

module _ (h : Header) (a : Arrays) where
  -- ---- the live slots and what is written of them, by their numbers

  pub slot-live : (i : ℕ) → live (slot_at h a i) ≡ live_at a.alive i
  unfolding slot_at
  slot-live i = mark-live (get_or a.alive i 0) (get_or a.keyed i false) (get_or a.keys i 0) (get_or a.held i 0)

  slot-entry : (i : ℕ) → has_one (key_of_mark (slot_at h a i).mark) ≡ entry_at a.keyed a.alive i
  unfolding slot_at
  slot-entry i = mark-entry (get_or a.alive i 0) (get_or a.keyed i false) (get_or a.keys i 0) (get_or a.held i 0)

  abbrev pub numbers : ℕ → List ℕ
  numbers s = keep (live_at a.alive) (below s)

  abbrev pub slot_entry : ℕ → Entry
  slot_entry i = record { code = (slot_at h a i).code; key = key_of_mark (slot_at h a i).mark; year = (slot_at h a i).year }

  -- what is written of the live ones among the first s slots
  abbrev pub entries : ℕ → List Entry
  entries s = map slot_entry (numbers s)

  pub entries-are : (s : ℕ) → map entry_of (live_from 0 (tab (slot_at h a) s)) ≡ entries s
  entries-are s =
      ap (map entry_of) (live-tab (slot_at h a) s) ∙ map-map entry_of (cell_at (slot_at h a) s) (keep (λ i. live (slot_at h a i)) (below s))
      ∙ (λ j. map slot_entry (keep (λ i. slot-live i j) (below s)))

  pub live-many : (s : ℕ) → length (entries s) ≡ count (live_at a.alive) (below s)
  live-many s = length-map (numbers s) slot_entry ∙ length-keep (live_at a.alive) (below s)

  pub keyed-many : (s : ℕ) → count (λ e. has_one e.key) (entries s) ≡ count (entry_at a.keyed a.alive) (below s)
  keyed-many s =
      count_map slot_entry (λ e. has_one e.key) (numbers s)
      ∙ (λ j. count (λ i. slot-entry i j) (numbers s))
      ∙ count-keep-implied (entry_at a.keyed a.alive) (live_at a.alive) (below s) (λ i. and_first (live_at a.alive i) (get_or a.keyed i false))

  -- a slot that is in use has a year
  dated-many : (s : ℕ) → s ≤ length a.years → count (λ e. is_dated e.year) (entries s) ≡ count (dated_at a.years a.alive) (below s)
  unfolding slot_at
  dated-many s room =
      count_map slot_entry (λ e. is_dated e.year) (numbers s) ∙ count_same (λ i. is_dated (get_or a.years i 0)) (dated_at a.years a.alive) (numbers s) each
      ∙ count-keep-implied (dated_at a.years a.alive) (live_at a.alive) (below s) (λ i. and_first (live_at a.alive i) (is_dated (get_or a.years i 1)))
    where
      there : (i : ℕ) → i < s → live_at a.alive i ≡ true → is_dated (get_or a.years i 0) ≡ dated_at a.years a.alive i
      there i l e = rw e (ap is_dated (get_d_default a.years i 0 1 (omega (arith, room))))

      each : Each (λ i. is_dated (get_or a.years i 0) ≡ dated_at a.years a.alive i) (numbers s)
      each =
          each_weaken (λ i. (i < s) × (live_at a.alive i ≡ true)) (λ i. is_dated (get_or a.years i 0) ≡ dated_at a.years a.alive i) (numbers s) (λ i t. there i t.0 t.1)
          (each_both (λ i. i < s) (λ i. live_at a.alive i ≡ true) (numbers s)
          (each_keep (λ i. i < s) (live_at a.alive) (below s) (each-tab (λ i. i < s) (λ i. i) s (λ i l. l)))
          (each-kept (λ i. live_at a.alive i ≡ true) (live_at a.alive) (below s) (λ i e. e)))

  module _ (s : ℕ) (space : s ≤ capacity h a) where
    shaped : Each (λ e. Shaped h e.code) (entries s)
    shaped =
        each_map (λ e. Shaped h e.code) slot_entry (numbers s)
        (each_keep (λ i. Shaped h (slot_at h a i).code) (live_at a.alive) (below s)
        (each-tab (λ i. Shaped h (slot_at h a i).code) (λ i. i) s (tab-each (λ t. Shaped h t.code) (slot_at h a) s (slots-shaped h a s space))))

    -- after the first s slots the counts say whether the file that the live ones among them make has years
    prefix-dated : ltb 0 (counts_of a.keyed a.years a.alive s).dated ≡ not (no_duty (entries s))
    unfolding counts_of
    prefix-dated = rw (dated-many s (enough h a s space).years) at (some-dated (entries s))

    -- and give its length
    pub prefix-length : length (file_bytes h (live_from 0 (tab (slot_at h a) s)))
        ≡ end_at (form_of (version_of h (entries s))) (block_size h) (counts_of a.keyed a.years a.alive s).live (counts_of a.keyed a.years a.alive s).keyed
    unfolding counts_of
    prefix-length =
        ap (λ (es : List Entry). length (file_of h es)) (entries-are s) ∙ file-length h (entries s) shaped
        ∙ ap₂ (end_at (form_of (version_of h (entries s))) (block_size h)) (live-many s) (keyed-many s)

-- ---- the call

module _ (x : Index) (a : Arrays) (e : fit x a ≡ true) where
  fits : Fits x a
  fits = (meaning x a).yes e

  pub few-slots : x.n ≤ 65536
  few-slots = (enough (header_of x) a x.n fits.room).few

  pub whole-block : (block : ℕ) → block ≡ at_width x.bits (block_size (header_of x)) → block ≡ block_size (header_of x)
  whole-block block f = f ∙ in-width x.bits (block_size (header_of x)) fits.fields.bits fits.fields.bits-high

  pub low-block : block_size (header_of x) ≤ 4096
  low-block = small-block (header_of x) (omega (arith, fits.fields.working-high, fits.fields.dim-high)) fits.fields.bits-high

  pub low-counts : (counts : Counts) → counts ≡ counts_of a.keyed a.years a.alive x.n → (counts.live ≤ 65536) × (counts.keyed ≤ 65536)
  unfolding counts_of
  low-counts counts f =
      rw f
      (omega (arith, few-slots, count-few (live_at a.alive) x.n), omega (arith, few-slots, count-few (entry_at a.keyed a.alive) x.n))

  -- the counts tell its version
  pub version-is : (counts : Counts) (version : ℕ) → counts ≡ counts_of a.keyed a.years a.alive x.n
      → version ≡ version_with (header_of x) (ltb 0 counts.dated) → version ≡ version_of (header_of x) (entries (header_of x) a x.n)
  unfolding version_of
  version-is counts version f v =
      v ∙ ap (version_with (header_of x)) (ap (λ (z : Counts). ltb 0 z.dated) f ∙ prefix-dated (header_of x) a x.n fits.room)

  pub length-is : (counts : Counts) (version block bytes : ℕ) → counts ≡ counts_of a.keyed a.years a.alive x.n
      → version ≡ version_of (header_of x) (entries (header_of x) a x.n) → block ≡ block_size (header_of x)
      → bytes ≡ end_at (form_of version) block counts.live counts.keyed
      → bytes ≡ length (file_bytes (header_of x) (live_from 0 (state_of x a).slots))
  unfolding state_of
  length-is counts version block bytes f v g k = k ∙ rw (f, g, v) (sym (prefix-length (header_of x) a x.n fits.room))

  pub length-call : (bytes : ℕ) → bytes ≡ length (file_bytes (header_of x) (live_from 0 (state_of x a).slots)) → result_of x a (size bytes) ≡ call x a file_length
  unfolding step state_of
  length-call bytes f = sym (call-answered x a file_length e (size bytes) (ap (λ (n : ℕ). answered (state_of x a) (size n)) (sym f)))
