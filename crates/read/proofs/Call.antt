-- What the program needs and has done once no test refuses.
use mathlib.Core.Path.{◌≡◌, refl, ◌∙◌}
use mathlib.Core.Bool.{Bool, true, false, cond}
use mathlib.Core.List.{List}
use Prim.Native.Nat.{ℕ, ◌*◌, ◌≤◌}
use native.Mathlib.Nat.{zero-mul}
use native.Mathlib.Omega.{arith}
use lib.ListN.{length}
use Rattle.lists.specs.Lists.{tab, over}
use Rattle.encode.specs.Header.{block_size}
use Rattle.index.specs.declared.Index.{Index}
use Rattle.index.specs.Verdict.{granted}
use Rattle.index.specs.Arrays.{Arrays}
use Rattle.index.specs.State.{record_of, scales_of, blocks_of}
use Rattle.index.specs.Form.{stage_size}
use Rattle.index.specs.Read.{form_in, count_in, header_in, stage_from, first_length, stages_in, second_in, table_in, entry_count, years_in, years_length, year_in, state_in, read_refusal, read_into}
use Rattle.index.proofs.Overlay.{Roomy, roomy}
use Rattle.index.proofs.Read.{Accepted, accepted}
use Rattle.held_order.specs.Restored.{rising_position}
use Rattle.read.specs.Table.{word_from, on_from}
use Rattle.index.specs.declared.Form.{Form}
use Rattle.index.specs.Make.{begun}
use Rattle.read.proofs.Limits.{few-slots}
use Rattle.read.proofs.Faults.{passed-head, read_all}
use Rattle.read.proofs.Filled.{Filled, filled}
use Rattle.marks.specs.Live.{no_marks}

module _ (file : List ℕ) (a : Arrays) (none : read_refusal file a ≡ 0) where
  passed : Accepted file a
  passed = accepted file a none

  room : Roomy (count_in file) (header_in file) a
  room = roomy (count_in file) (header_in file) a passed.space

  few : count_in file ≤ 65536
  few = few-slots file (passed-head file a none).1

  module _ (g : List ℕ) (eg : g ≡ file) (f : Form) (w n : ℕ) (form_is : f ≡ form_in g) (block_is : w ≡ block_size (header_in g)) (count_is : n ≡ count_in g) where
    ef : f ≡ form_in file
    ef = rw eg at form_is

    ew : w ≡ block_size (header_in file)
    ew = rw eg at block_is

    en : n ≡ count_in file
    en = rw eg at count_is

    pub first-room : (bytes : List ℕ) → bytes ≡ stages_in g →
        ((n ≤ 65536) × (n * w ≤ length a.codes) × (n ≤ length a.scales)) × (stage_size w n ≤ length bytes)
    first-room bytes eb = rw (ew, en, eb, eg) ((few, room.codes, room.scales), passed.first)

    pub marks-room : (n ≤ 65536) × (n ≤ length a.keys) × (n ≤ length a.keyed) × (n ≤ length a.held) × (n ≤ length a.alive)
    marks-room = rw en (few, room.keys, room.keyed, room.held, room.alive)

    pub second-room : (bytes : List ℕ) (m : ℕ) → bytes ≡ second_in g → m ≡ cond f.second n 0 →
        ((m ≤ 65536) × (m * w ≤ length a.codes2) × (m ≤ length a.scales2)) × (stage_size w m ≤ length bytes)
    unfolding header_in
    second-room bytes m eb em = rw (em, ef, ew, en, eb, eg) (go (form_in file).second refl passed.second)
      where
        go : (b : Bool) → (form_in file).second ≡ b → cond b (first_length file) 0 ≤ length (second_in file) →
            ((cond b (count_in file) 0 ≤ 65536) × (cond b (count_in file) 0 * block_size (header_in file) ≤ length a.codes2) × (cond b (count_in file) 0 ≤ length a.scales2))
            × (stage_size (block_size (header_in file)) (cond b (count_in file) 0) ≤ length (second_in file))
        go true q l = ((few, room.codes2 q, room.scales2 q), l)
        go false q l =
            let z = zero-mul (block_size (header_in file)) in
            ((omega arith, omega (arith, z), omega arith), omega (arith, z))

    pub years-room : (n ≤ length a.years) × (years_length g ≤ length (years_in g))
    years-room = rw (en, eg) (room.years, passed.years)

    -- what the program has done by these numbers
    pub record Done (b : Arrays) (stages second table : List ℕ) (k m : ℕ) : Type 0 where
      pub stages-are : stages ≡ stages_in g
      pub second-are : second ≡ second_in g
      pub table_is : table ≡ table_in g
      pub entries-are : k ≡ entry_count g
      pub seconds-are : m ≡ cond f.second n 0
      pub codes : b.codes ≡ over (blocks_of (tab (stage_from w n stages) n)) a.codes
      pub scales : b.scales ≡ over (scales_of (tab (stage_from w n stages) n)) a.scales
      pub keys : b.keys ≡ over (tab (word_from table k) n) a.keys
      pub keyed : b.keyed ≡ over (tab (on_from table k) n) a.keyed
      pub held : b.held ≡ over (tab (rising_position b.keys b.keyed) n) a.held
      pub alive : b.alive ≡ over (tab (λ _. 1) n) (no_marks a.alive)
      pub codes2 : b.codes2 ≡ over (blocks_of (tab (stage_from w m second) m)) a.codes2
      pub scales2 : b.scales2 ≡ over (scales_of (tab (stage_from w m second) m)) a.scales2
      pub years : b.years ≡ over (tab (year_in g) n) a.years

    fills : (b : Arrays) (stages second table : List ℕ) (k m : ℕ) → Done b stages second table k m → Filled file a b
    fills b stages second table k m d =
        let em : m ≡ cond (form_in file).second (count_in file) 0 = d.seconds-are ∙ (λ i. cond (ef i).second (en i) 0) in
        let es : stages ≡ stages_in file = rw eg at d.stages-are in
        let et : second ≡ second_in file = rw eg at d.second-are in
        let eb : table ≡ table_in file = rw eg at d.table_is in
        let ek : k ≡ entry_count file = rw eg at d.entries-are in
        record {
          codes = d.codes ∙ (λ i. over (blocks_of (tab (stage_from (ew i) (en i) (es i)) (en i))) a.codes);
          scales = d.scales ∙ (λ i. over (scales_of (tab (stage_from (ew i) (en i) (es i)) (en i))) a.scales);
          keys = d.keys ∙ (λ i. over (tab (word_from (eb i) (ek i)) (en i)) a.keys);
          keyed = d.keyed ∙ (λ i. over (tab (on_from (eb i) (ek i)) (en i)) a.keyed);
          held = d.held ∙ (λ i. over (tab (rising_position b.keys b.keyed) (en i)) a.held);
          alive = d.alive ∙ (λ i. over (tab (λ _. 1) (en i)) (no_marks a.alive));
          codes2 = d.codes2 ∙ (λ i. over (blocks_of (tab (stage_from (ew i) (em i) (et i)) (em i))) a.codes2);
          scales2 = d.scales2 ∙ (λ i. over (scales_of (tab (stage_from (ew i) (em i) (et i)) (em i))) a.scales2);
          years = d.years ∙ (λ i. over (tab (year_in (eg i)) (en i)) a.years);
        }

    pub done : (b : Arrays) (stages second table : List ℕ) (k m : ℕ) → Done b stages second table k m → (x : Index) → x ≡ record_of (state_in file) → begun (granted x) b ≡ read_into a file
    done b stages second table k m d x ex = read_all file a none x b ex (filled file a passed b (fills b stages second table k m d))
