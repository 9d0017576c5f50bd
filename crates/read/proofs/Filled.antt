-- The arrays that the program leaves are the index's overlay of the slots read.
use mathlib.Core.Path.{◌≡◌, refl, sym, ap, ◌∙◌}
use mathlib.Core.Bool.{Bool, true, false, cond}
use mathlib.Core.List.{List, map}
use mathlib.Core.Option.{Option, none, some}
use Prim.Native.Nat.{ℕ, ◌<◌}
use native.Mathlib.Omega.{arith}
use lib.ListN.{length, get_or}
use Rattle.lists.specs.Lists.{tab, over}
use Rattle.lists.specs.Keep.{count}
use Rattle.lists.proofs.Laws.{length-tab, get_or-tab, tab-ext}
use Rattle.lists.proofs.Keep.{count-all}
use Rattle.lists.proofs.Front.{map-tab, get_d_front}
use Rattle.codes.specs.Stage.{Stage}
use Rattle.encode.specs.declared.Header.{Header}
use Rattle.encode.specs.Header.{block_size}
use Rattle.index.specs.declared.Form.{Form}
use Rattle.index.specs.declared.Index.{Index}
use Rattle.index.specs.Arrays.{Arrays, unmarked}
use Rattle.index.specs.State.{Mark, keyed, Slot, live, record_with, record_of, alive_of, has_key, key_word, position, seconds, scales_of, blocks_of, overlay}
use Rattle.index.specs.Read.{form_in, count_in, header_in, stage_from, key_from, mark_from, stages_in, second_in, table_in, entry_count, entries_in, year_in, slot_in, slots_in, state_in, entry_from}
use Rattle.index.specs.Sound.{AllShaped}
use Rattle.index.proofs.Overlay.{second_of, plain-seconds, residual-seconds}
use Rattle.index.proofs.Read.{Accepted, read_live, read_length, read-sound}
use Rattle.held_order.specs.Restored.{rising_position}
use Rattle.compact.proofs.Rising.{rising-map, rising-positions}
use Rattle.read.specs.Table.{slots_from, key_by, word_from, on_from}
use Rattle.read.proofs.Keys.{keys-are}
use Rattle.marks.specs.Live.{no_marks}

-- the record: all slots are live
pub record_is : (file : List ℕ) (h : Header) (n : ℕ) → h ≡ header_in file → n ≡ count_in file →
    record_with h n n false ≡ record_of (state_in file)
unfolding record_of state_in
record_is file h n e f =
    let many : n ≡ length (slots_in file) = f ∙ sym (read_length file) in
    let lives : n ≡ count live (slots_in file) = many ∙ sym (count-all live (slots_in file) (read_live file)) in
    λ i. record_with (e i) (many i) (lives i) false

pub record-count : (file : List ℕ) (x : Index) → x ≡ record_of (state_in file) → x.n ≡ count_in file
unfolding record_of state_in
record-count file x e = ap (λ (y : Index). y.n) e ∙ read_length file

module _ (file : List ℕ) where
  abbrev f : Form
  f = form_in file

  abbrev w : ℕ
  w = block_size (header_in file)

  abbrev n : ℕ
  n = count_in file

  abbrev loose : List Slot
  loose = tab (slot_in file) n

  -- what the program has done
  pub record Filled (a b : Arrays) : Type 0 where
    pub codes : b.codes ≡ over (blocks_of (tab (stage_from w n (stages_in file)) n)) a.codes
    pub scales : b.scales ≡ over (scales_of (tab (stage_from w n (stages_in file)) n)) a.scales
    pub keys : b.keys ≡ over (tab (word_from (table_in file) (entry_count file)) n) a.keys
    pub keyed : b.keyed ≡ over (tab (on_from (table_in file) (entry_count file)) n) a.keyed
    pub held : b.held ≡ over (tab (rising_position b.keys b.keyed) n) a.held
    pub alive : b.alive ≡ over (tab (λ _. 1) n) (no_marks a.alive)
    pub codes2 : b.codes2 ≡ over (blocks_of (tab (stage_from w (cond f.second n 0) (second_in file)) (cond f.second n 0))) a.codes2
    pub scales2 : b.scales2 ≡ over (scales_of (tab (stage_from w (cond f.second n 0) (second_in file)) (cond f.second n 0))) a.scales2
    pub years : b.years ≡ over (tab (year_in file) n) a.years

  -- ---- stages

  firsts : map (λ s. s.code.first) (slots_in file) ≡ tab (stage_from w n (stages_in file)) n
  unfolding slots_in slot_in
  firsts = rising-map (λ s. s.code.first) (λ k p q c. refl) (λ k. 0) loose ∙ map-tab (λ (s : Slot). s.code.first) (slot_in file) n

  module _ (shape : AllShaped (header_in file) (slots_in file)) where
    second-stages : seconds (slots_in file) ≡ tab (stage_from w (cond f.second n 0) (second_in file)) (cond f.second n 0)
    unfolding header_in slots_in slot_in
    second-stages = go f.second refl
      where
        go : (b : Bool) → f.second ≡ b → seconds (slots_in file) ≡ tab (stage_from w (cond b n 0) (second_in file)) (cond b n 0)
        go true e =
            residual-seconds (header_in file) e (slots_in file) shape ∙ rising-map second_of (λ k p q c. refl) (λ k. 0) loose ∙ map-tab second_of (slot_in file) n
            ∙ tab-ext (λ i. second_of (slot_in file i)) (stage_from w n (second_in file)) n (λ i l. rw e)
        go false e = plain-seconds (header_in file) e (slots_in file) shape

  -- ---- years

  years-are : map (λ s. s.year) (slots_in file) ≡ tab (year_in file) n
  unfolding slots_in slot_in
  years-are = rising-map (λ s. s.year) (λ k p q c. refl) (λ k. 0) loose ∙ map-tab (λ (s : Slot). s.year) (slot_in file) n

  -- ---- keys and marks

  module _ (a : Arrays) (t : Accepted file a) where
    key-at : (i : ℕ) → key_from (entries_in file) i ≡ key_by (entry_from (table_in file)) (entry_count file) i
    unfolding entries_in slots_from
    key-at i =
        keys-are n (table_in file) (entry_count file) i
        (rw (map-tab (λ e. e.slot) (entry_from (table_in file)) (entry_count file)) at t.keys)

    -- what doesn't look at positions
    marks-are : {B : Type 0} (g : Mark → B) → ((k p q : ℕ) → g (keyed k p) ≡ g (keyed k q)) → map (λ s. g s.mark) (slots_in file) ≡ tab (λ i. g (mark_from (key_by (entry_from (table_in file)) (entry_count file) i))) n
    unfolding slots_in slot_in
    marks-are g same =
        rising-map (λ s. g s.mark) (λ k p q c. same k p q) (λ k. 0) loose ∙ map-tab (λ (s : Slot). g s.mark) (slot_in file) n
        ∙ tab-ext (λ i. g (slot_in file i).mark) (λ i. g (mark_from (key_by (entry_from (table_in file)) (entry_count file) i))) n (λ i l. ap (λ (o : Option ℕ). g (mark_from o)) (key-at i))

    live-mark : (o : Option ℕ) → alive_of (mark_from o) ≡ 1
    live-mark none = refl
    live-mark (some k) = refl

    all-live : map (λ s. alive_of s.mark) (slots_in file) ≡ tab (λ _. 1) n
    all-live =
        let key : ℕ → Option ℕ = key_by (entry_from (table_in file)) (entry_count file) in
        marks-are alive_of (λ k p q. refl) ∙ tab-ext (λ i. alive_of (mark_from (key i))) (λ _. 1) n (λ i l. live-mark (key i))

    -- the entries of an array over which a part of the marks was written
    part_at : {B : Type 0} (g : Mark → B) (xs ys : List B) (z : B) → ys ≡ over (tab (λ i. g (mark_from (key_by (entry_from (table_in file)) (entry_count file) i))) n) xs →
        (i : ℕ) (d : Slot) → i < length loose → get_or ys i z ≡ g (get_or loose i d).mark
    unfolding slot_in
    part_at g xs ys z e i d l =
        let f : ℕ → _ = λ j. g (mark_from (key_by (entry_from (table_in file)) (entry_count file) j)) in
        let h : i < n = omega (arith, l, length-tab (slot_in file) n) in
        ap (λ (us : List _). get_or us i z) e ∙ get_d_front (tab f n) xs i z (omega (arith, h, length-tab f n)) ∙ get_or-tab f n i z h
        ∙ sym (ap (λ (s : Slot). g s.mark) (get_or-tab (slot_in file) n i d h) ∙ ap (λ (o : Option ℕ). g (mark_from o)) (key-at i))

    positions : (b : Arrays) → Filled a b → map (λ s. position s.mark) (slots_in file) ≡ tab (rising_position b.keys b.keyed) n
    unfolding slots_in
    positions b f =
        rising-positions loose b.keys b.keyed (part_at key_word a.keys b.keys 0 f.keys) (part_at has_key a.keyed b.keyed false f.keyed)
        ∙ ap (tab (rising_position b.keys b.keyed)) (length-tab (slot_in file) n)

    shaped : AllShaped (header_in file) (slots_in file)
    unfolding state_in
    shaped = (read-sound file a t).shape

    -- ---- all arrays

    pub filled : (b : Arrays) → Filled a b → b ≡ overlay (unmarked a) (slots_in file)
    unfolding overlay
    filled b f =
        λ j. record {
          codes = (f.codes ∙ ap (λ (gs : List Stage). over (blocks_of gs) a.codes) (sym firsts)) j;
          scales = (f.scales ∙ ap (λ (gs : List Stage). over (scales_of gs) a.scales) (sym firsts)) j;
          keys = (f.keys ∙ ap (λ (ys : List ℕ). over ys a.keys) (sym (marks-are key_word (λ k p q. refl)))) j;
          keyed = (f.keyed ∙ ap (λ (ys : List Bool). over ys a.keyed) (sym (marks-are has_key (λ k p q. refl)))) j;
          held = (f.held ∙ ap (λ (ys : List ℕ). over ys a.held) (sym (positions b f))) j;
          alive = (f.alive ∙ ap (λ (ys : List ℕ). over ys (no_marks a.alive)) (sym all-live)) j;
          codes2 = (f.codes2 ∙ ap (λ (gs : List Stage). over (blocks_of gs) a.codes2) (sym (second-stages shaped))) j;
          scales2 = (f.scales2 ∙ ap (λ (gs : List Stage). over (scales_of gs) a.scales2) (sym (second-stages shaped))) j;
          years = (f.years ∙ ap (λ (ys : List ℕ). over ys a.years) (sym years-are)) j;
        }
