-- What was written is accepted, and the live slots are read back with their scales rounded to halves.
use mathlib.Core.Path.{◌≡◌, refl, sym, ap, ap₂, ◌∙◌}
use mathlib.Core.Bool.{Bool, true, false, not, cond}
use mathlib.Core.List.{List, [], ◌∷◌, ◌++◌, map, append-nil, append_assoc}
use mathlib.Core.Option.{Option, none, some}
use Prim.Native.Nat.{ℕ, ◌+◌, ◌*◌, ◌^◌, ◌≤◌, ◌<◌}
use native.Mathlib.Omega.{arith}
use lib.ListN.{length, drop, get_or, length-drop, length-map, get_or-map}
use lib.Seq.{drop_at}
use lib.Dec.{eqb, ltb}
use borrow.Author.Tests.{le-ltb, eqb-true, ne_eqb}
use Rattle.lists.specs.Lists.{tab, joined}
use Rattle.lists.specs.Keep.{Each}
use Rattle.lists.proofs.Keep.{each_weaken, count-length}
use Rattle.lists.proofs.Front.{tab-map, each_map, each_at}
use Rattle.half.specs.Half.{narrowed}
use Rattle.codes.specs.Stage.{Stage}
use Rattle.encode.specs.declared.Header.{Header}
use Rattle.encode.specs.Header.{block_size}
use Rattle.index.specs.Arrays.{Arrays}
use Rattle.index.specs.State.{capacity}
use Rattle.index.specs.Fit.{between}
use Rattle.index.specs.Step.{first_of, when, rising}
use Rattle.index.specs.declared.Form.{Form}
use Rattle.index.specs.Form.{stages_at, second_at, keys_at, years_at, end_at}
use Rattle.index.specs.File.{Entry, le_bytes, magic, no_duty, version_of, stage_bytes, second_stages, key_entries, year_bytes, file_of}
use Rattle.index.specs.Sound.{Shaped, block_length}
use Rattle.index.specs.Read.{little_endian, form_in, dim_in, count_in, working_field, header_in, head_fault, over_limits, stage_from, KeyEntry, entry_from, well_keyed, key_from, mark_from, first_length, second_length, stages_in, second_in, table_in, entry_count, table_length, years_in, years_length, stated_end, entries_in, year_in, slot_in, slots_in, state_in, read_refusal}
use Rattle.index.proofs.Fits.{all-each}
use Rattle.index.proofs.Read.{second_at_lem, table_at, years-there}
use Rattle.layout.proofs.Length.{has_one, keyed-count, form, form-keys, form-known, form-second, form-years, file-length, to_stages, to_second, to_keys, to_years, stages-begin, second-begins, keys-begin, years-begin}
use Rattle.round_trip.specs.Back.{halved, halved_if, read_back, PatternLow, KeyLow, Holdable, Writable}
use Rattle.round_trip.proofs.Fields.{le-back, form-back, count-back, dim-least, dim-most, dim-back, field-low, field_back, header-back}
use Rattle.round_trip.proofs.Stages.{number-back, stage_at}
use Rattle.round_trip.proofs.Keys.{pairs, slots_of, entries-are, pairs-low, well-back, key_back, table-back}
use Rattle.round_trip.proofs.Halves.{half-low}

abbrev first_or : Stage → Option Stage → Stage
first_or f none = f
first_or f (some g) = g

-- the second stage of an entry, which a residual file has
abbrev second_of : Entry → Stage
second_of e = first_or e.code.first e.code.second

has-second : (h : Header) → h.residual ≡ true → (e : Entry) → Shaped h e.code → (e.code.second ≡ some (second_of e)) × (length (second_of e).block ≡ block_size h)
has-second h r e s = go e.code.second (s.second ∙ rw r)
  where
    go : (o : Option Stage) → block_length o ≡ some (block_size h) → (o ≡ some (first_or e.code.first o)) × (length (first_or e.code.first o).block ≡ block_size h)
    go none p = absurd (let z : ◌≡◌ {A = ℕ} 0 1 = cc in omega arith)
    go (some g) p = (refl, cc)

no_second : (h : Header) → h.residual ≡ false → (e : Entry) → Shaped h e.code → e.code.second ≡ none
no_second h r e s = go e.code.second (s.second ∙ rw r)
  where
    go : (o : Option Stage) → block_length o ≡ none → o ≡ none
    go none p = refl
    go (some g) p = absurd (let z : ◌≡◌ {A = ℕ} 0 1 = cc in omega arith)

all-seconds : (h : Header) → h.residual ≡ true → (es : List Entry) → Each (λ e. Shaped h e.code) es → second_stages es ≡ map second_of es
unfolding second_stages
all-seconds h r [] s = refl
all-seconds h r (e ∷ es) s = rw ((has-second h r e s.0).0, all-seconds h r es s.1)

module _ (h : Header) (es : List Entry) (t : Writable h es) where
  abbrev file : List ℕ
  file = file_of h es

  abbrev n : ℕ
  n = length es

  abbrev w : ℕ
  w = block_size h

  abbrev firsts : List Stage
  firsts = map (λ e. e.code.first) es

  abbrev key_count : ℕ
  key_count = length (key_entries 0 es)

  shapes : Each (λ e. Shaped h e.code) es
  shapes = each_weaken (Holdable h) (λ e. Shaped h e.code) es (λ e s. s.shape) t.entries

  abbrev f : Form
  f = form h es

  ef : form_in file ≡ f
  ef = form-back h es

  eh : header_in file ≡ h
  eh = header-back h es t.header t.seed

  en : count_in file ≡ n
  en = count-back h es (omega (arith, t.few))

  ew : block_size (header_in file) ≡ w
  ew = ap block_size eh

  few-keys : key_count ≤ n
  few-keys = omega (arith, keyed-count 0 es, count-length (λ e. has_one e.key) es)

  -- ---- the parts of the file

  abbrev years : List ℕ
  years = year_bytes (version_of h es) es

  abbrev table : List ℕ
  table = le_bytes 4 key_count ++ (joined (key_entries 0 es) ++ years)

  to-years : file ≡ to_years h es shapes ++ years
  unfolding file_of
  to-years = refl

  to-keys : file ≡ to_keys h es shapes ++ table
  to-keys =
      to-years ∙ append_assoc (to_keys h es shapes ++ le_bytes 4 key_count) (joined (key_entries 0 es)) years
      ∙ append_assoc (to_keys h es shapes) (le_bytes 4 key_count) (joined (key_entries 0 es) ++ years)

  to-second : file ≡ to_second h es shapes ++ (stage_bytes (second_stages es) ++ table)
  to-second = to-keys ∙ append_assoc (to_second h es shapes) (stage_bytes (second_stages es)) table

  to-stages : file ≡ to_stages h es shapes ++ (stage_bytes firsts ++ (stage_bytes (second_stages es) ++ table))
  to-stages = to-second ∙ append_assoc (to_stages h es shapes) (stage_bytes firsts) (stage_bytes (second_stages es) ++ table)

  stages-are : stages_in file ≡ stage_bytes firsts ++ (stage_bytes (second_stages es) ++ table)
  stages-are =
      ap (λ (g : Form). drop (stages_at g) file) ef ∙ ap (drop (stages_at f)) to-stages
      ∙ drop_at (to_stages h es shapes) (stage_bytes firsts ++ (stage_bytes (second_stages es) ++ table)) (stages_at f) (stages-begin h es shapes)

  seconds-are : second_in file ≡ stage_bytes (second_stages es) ++ table
  seconds-are =
      second_at_lem file ∙ (λ i. drop (second_at (ef i) (ew i) (en i)) (to-second i))
      ∙ drop_at (to_second h es shapes) (stage_bytes (second_stages es) ++ table) (second_at f w n) (second-begins h es shapes)

  table_is : table_in file ≡ table
  table_is =
      table_at file ∙ (λ i. drop (keys_at (ef i) (ew i) (en i)) (to-keys i))
      ∙ drop_at (to_keys h es shapes) table (keys_at f w n) (keys-begin h es shapes)

  -- ---- stages

  stage-back : (of : Entry → Stage) (rest : List ℕ) → Each (λ e. (length (of e).block ≡ w) × ((of e).scale < 2 ^ 32)) es → (i : ℕ) (d : Entry) → i < n →
      stage_from w n (stage_bytes (map of es) ++ rest) i ≡ halved (of (get_or es i d))
  stage-back of rest s i d l =
      ap (λ (m : ℕ). stage_from w m (stage_bytes (map of es) ++ rest) i) (sym (length-map es of))
      ∙ stage_at w (map of es) rest
      (each_map (λ g. length g.block ≡ w) of es (each_weaken (λ e. (length (of e).block ≡ w) × ((of e).scale < 2 ^ 32)) (λ e. length (of e).block ≡ w) es (λ e q. q.0) s))
      (each_map (λ g. narrowed g.scale < 256 ^ 2) of es
      (each_weaken (λ e. (length (of e).block ≡ w) × ((of e).scale < 2 ^ 32)) (λ e. narrowed (of e).scale < 256 ^ 2) es (λ e q. half-low (of e).scale q.1) s))
      i (of d) (rw (length-map es of) l)
      ∙ ap halved (get_or-map of es i d)

  first_back : (i : ℕ) (d : Entry) → i < n → stage_from (block_size (header_in file)) (count_in file) (stages_in file) i ≡ halved (get_or es i d).code.first
  first_back i d l =
      (λ j. stage_from (ew j) (en j) (stages-are j) i)
      ∙ stage-back (λ e. e.code.first) (stage_bytes (second_stages es) ++ table)
      (each_weaken (Holdable h) (λ e. (length e.code.first.block ≡ w) × (e.code.first.scale < 2 ^ 32)) es (λ e s. (s.shape.first, s.scale)) t.entries) i d l

  second_back : (i : ℕ) (d : Entry) → i < n →
      cond (form_in file).second (some (stage_from (block_size (header_in file)) (count_in file) (second_in file) i)) none ≡ halved_if (get_or es i d).code.second
  second_back i d l =
      (λ j. cond (ef j).second (some (stage_from (ew j) (en j) (seconds-are j) i)) none) ∙ ap (λ (b : Bool). cond b (some (stage_from w n (stage_bytes (second_stages es) ++ table) i)) none) (form-second h es)
      ∙ go h.residual refl
    where
      shape : Shaped h (get_or es i d).code
      shape = each_at (λ e. Shaped h e.code) es i d shapes l

      low : (e : Entry) (o : Option Stage) → o ≡ some (first_or e.code.first o) → PatternLow o → (first_or e.code.first o).scale < 2 ^ 32
      low e none p q = absurd (let z : ◌≡◌ {A = ℕ} 0 1 = cc in omega arith)
      low e (some g) p q = q

      go : (b : Bool) → h.residual ≡ b → cond b (some (stage_from w n (stage_bytes (second_stages es) ++ table) i)) none ≡ halved_if (get_or es i d).code.second
      go true r =
          ap some
          (ap (λ (gs : List Stage). stage_from w n (stage_bytes gs ++ table) i) (all-seconds h r es shapes)
          ∙ stage-back second_of table
          (each_weaken (Holdable h) (λ e. (length (second_of e).block ≡ w) × ((second_of e).scale < 2 ^ 32)) es
          (λ e s. ((has-second h r e s.shape).1, low e e.code.second (has-second h r e s.shape).0 s.scale2)) t.entries) i d l)
          ∙ ap halved_if (sym (has-second h r (get_or es i d) shape).0)
      go false r = ap halved_if (sym (no_second h r (get_or es i d) shape))

  -- ---- keys

  entry-count : entry_count file ≡ key_count
  entry-count =
      ap₂ (λ (g : Form) (bs : List ℕ). cond g.keys (little_endian 4 bs) 0) ef table_is ∙ ap (λ (b : Bool). cond b (little_endian 4 table) 0) (form-keys h es)
      ∙ le-back 4 key_count (joined (key_entries 0 es) ++ years) (omega (arith, few-keys, t.few))

  key-low : Each (λ e. KeyLow e.key) es
  key-low = each_weaken (Holdable h) (λ e. KeyLow e.key) es (λ e s. s.key) t.entries

  entries-back : entries_in file ≡ pairs 0 es
  unfolding entries_in
  entries-back =
      ap₂ (λ (bs : List ℕ) (k : ℕ). tab (entry_from bs) k) (table_is ∙ ap (λ (bs : List (List ℕ)). le_bytes 4 key_count ++ (joined bs ++ years)) (entries-are 0 es))
      (entry-count ∙ ap length (entries-are 0 es) ∙ length-map (pairs 0 es) (λ (p : KeyEntry). le_bytes 4 p.slot ++ le_bytes 8 p.key))
      ∙ table-back key_count (pairs 0 es) years (pairs-low 0 es (omega (arith, t.few)) key-low)

  -- ---- years

  years-are : years_in file ≡ years
  years-are =
      years-there file ∙ (λ i. drop (years_at (ef i) (ew i) (en i) (entry-count i)) (to-years i))
      ∙ drop_at (to_years h es shapes) years (years_at f w n key_count) (years-begin h es shapes ∙ ap (years_at f w n) (sym (keyed-count 0 es)))

  year-back : (i : ℕ) (d : Entry) → i < n → year_in file i ≡ (get_or es i d).year
  year-back i d l =
      ap₂ (λ (g : Form) (bs : List ℕ). cond g.years (little_endian 2 (drop (i * 2) bs)) 1) ef years-are
      ∙ ap (λ (b : Bool). cond b (little_endian 2 (drop (i * 2) (cond b (joined written) []))) 1) (form-years h es) ∙ go (no_duty es) refl
    where
      written : List (List ℕ)
      written = map (λ e. le_bytes 2 e.year) es

      low : Each (λ e. e.year < 256 ^ 2) es
      low = each_weaken (Holdable h) (λ e. e.year < 256 ^ 2) es (λ e s. s.year) t.entries

      go : (b : Bool) → no_duty es ≡ b → cond (not b) (little_endian 2 (drop (i * 2) (cond (not b) (joined written) []))) 1 ≡ (get_or es i d).year
      go true e = sym (eqb-true (get_or es i d).year 1 (each_at (λ e. eqb e.year 1 ≡ true) es i d (all-each (λ e. eqb e.year 1) es e) l))
      go false e = ap (λ (bs : List ℕ). little_endian 2 (drop (i * 2) bs)) (sym (append-nil (joined written))) ∙ number-back (λ e. e.year) es [] low i d l

  -- ---- slots

  slot-back : (i : ℕ) (d : Entry) → i < n → slot_in file i ≡ read_back (get_or es i d)
  unfolding slot_in
  slot-back i d l =
      λ j. record {
        mark = mark_from ((ap (λ (ps : List KeyEntry). key_from ps i) entries-back ∙ key_back i es d l) j);
        code = record { first = first_back i d l j; second = second_back i d l j };
        year = year-back i d l j;
      }

  pub slots-back : slots_in file ≡ rising (λ k. 0) (map read_back es)
  unfolding slots_in
  slots-back = ap (rising (λ k. 0)) (ap (tab (slot_in file)) en ∙ tab-map read_back (slot_in file) es slot-back)

  -- the value that is read
  pub value-back : state_in file ≡ record { header = h; cascade = false; slots = rising (λ k. 0) (map read_back es) }
  unfolding state_in
  value-back = λ i. record { header = eh i; cascade = false; slots = slots-back i }

  -- ---- it is accepted

  end_is : stated_end file ≡ length file
  end_is =
      (λ i. end_at (ef i) (ew i) (en i) (entry-count i)) ∙ ap (end_at f w n) (keyed-count 0 es) ∙ sym (file-length h es shapes)

  -- the blocks end where the file does
  all_there : stages_at (form_in file) + first_length file + second_length file + table_length file + years_length file ≡ length file
  unfolding end_at
  all_there = end_is

  named : eqb (little_endian 4 file) (little_endian 4 magic) ≡ true
  unfolding file_of little_endian
  named = refl

  version-known : (form_in file).known ≡ true
  version-known = ap (λ (g : Form). g.known) ef ∙ form-known h es

  dim-is : dim_in file ≡ h.dim
  dim-is = dim-back h es t.header

  head-back : head_fault file ≡ 0
  unfolding head_fault first_of
  head-back =
      rw (
        le-ltb (length file) 24 (omega (arith, all_there)),
        named,
        version-known,
        le-ltb (dim_in file) (working_field file) (omega (arith, dim-is, field_back h es t.header, field-low h es t.header)),
        le-ltb (length file) (stages_at (form_in file)) (omega (arith, all_there)),
        ap (λ (g : Header). between 4 6 g.bits) eh ∙ t.header.bits,
      )

  limits-back : over_limits file ≡ false
  limits-back =
      rw (le-ltb 4096 (dim_in file) (omega (arith, dim-is, dim-most h es t.header))) (le-ltb 65536 (count_in file) (omega (arith, en, t.few)))

  keys-sound : well_keyed (count_in file) (map (λ e. e.slot) (entries_in file)) ≡ true
  keys-sound = ap₂ (λ (m : ℕ) (ps : List KeyEntry). well_keyed m (slots_of ps)) en entries-back ∙ well-back es

  -- the arrays' room alone decides
  pub refusal-back : (a : Arrays) → read_refusal file a ≡ when (ltb (capacity h a) n) 20
  unfolding read_refusal first_of
  refusal-back a =
      let first = length-drop (stages_at (form_in file)) file in
      let second = length-drop (first_length file) (stages_in file) in
      let third = length-drop (second_length file) (second_in file) in
      let fourth = length-drop (table_length file) (table_in file) in
      rw (
        head-back,
        limits-back,
        ap₂ (λ (g : Header) (m : ℕ). ltb (capacity g a) m) eh en,
        le-ltb (length (stages_in file)) (first_length file) (omega (arith, all_there, first)),
        ne_eqb (dim_in file) 0 (λ e. absurd (omega (arith, e, dim-is, dim-least h es t.header))),
        le-ltb (length (second_in file)) (second_length file) (omega (arith, all_there, first, second)),
        le-ltb (length (table_in file)) (table_length file) (omega (arith, all_there, first, second, third)),
        le-ltb (length (years_in file)) (years_length file) (omega (arith, all_there, first, second, third, fourth)),
        keys-sound,
      )
      (go (ltb (capacity h a) n))
    where
      go : (b : Bool) → first_of (0 ∷ 0 ∷ when b 20 ∷ 0 ∷ 0 ∷ 0 ∷ 0 ∷ []) ≡ when b 20
      go true = refl
      go false = refl

  -- arrays with room for the entries take the file
  pub accepted-back : (a : Arrays) → n ≤ capacity h a → read_refusal file a ≡ 0
  accepted-back a space = refusal-back a ∙ rw (le-ltb (capacity h a) n space)
