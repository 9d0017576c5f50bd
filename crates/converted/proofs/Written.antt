-- A converted file is one that is written: of the old slots, without keys.
use mathlib.Core.Path.{◌≡◌, refl, sym, ap, ap₂, ◌∙◌}
use mathlib.Core.Bool.{Bool, true, cond}
use mathlib.Core.List.{List, [], ◌∷◌, ◌++◌, map, append-nil, append_assoc}
use mathlib.Core.Option.{none}
use Prim.Native.Nat.{ℕ, suc, ◌+◌, ◌*◌, ◌^◌, ◌≤◌, ◌<◌}
use native.Mathlib.Nat.{suc-mul, mul-le-mul_right}
use native.Mathlib.Omega.{arith}
use lib.ListN.{length, take, drop, length-drop}
use lib.Seq.{drop-drop, take-add, length-take-le}
use lib.Dec.{eqb}
use borrow.Author.Tests.{le-leb, ltb-false, eqb-false, eq-eqb}
use Rattle.lists.specs.Lists.{tab, joined}
use Rattle.lists.specs.Keep.{Each}
use Rattle.lists.proofs.Laws.{length-tab}
use Rattle.lists.proofs.Front.{map-tab, each-tab}
use Rattle.digits.specs.Digits.{Below, number}
use Rattle.digits.proofs.Below.{below-drop, below-take}
use Rattle.digits.proofs.Number.{number_lt}
use Rattle.digits.proofs.Digits.{digits_number}
use Rattle.half.specs.Half.{narrowed}
use Rattle.codes.specs.Slots.{block_at}
use Rattle.codes.specs.Stage.{Stage}
use Rattle.index.specs.Form.{form_of}
use Rattle.index.specs.File.{Entry, le_bytes, magic, no_duty, stage_bytes, second_stages, key_entries, file_of}
use Rattle.index.specs.Sound.{Ranged}
use Rattle.index.specs.Read.{little_endian, dim_in, count_in}
use Rattle.index.proofs.Blocks.{length-block, joined-blocks}
use Rattle.index.proofs.Fits.{each_all}
use Rattle.index.proofs.Kept.{when-none}
use Rattle.index.proofs.Read.{all-passed}
use Rattle.round_trip.specs.Back.{Holdable, Writable}
use Rattle.round_trip.specs.Plain.{plain_file}
use Rattle.round_trip.proofs.Plain.{written-as-before}
use Rattle.conversion.specs.Old.{old_header, old_block, old_stages, old_end, old_head_fault, old_body_fault, old_stage}
use Rattle.conversion.specs.Scales.{halves_of}
use Rattle.conversion.specs.Converted.{conversion_refusal, scale_bytes, code_bytes, new_head, no_keys, converted}
use Rattle.conversion.proofs.Scales.{scale_at, scales-first}
use Rattle.conversion.proofs.Streaming.{limits}
use Rattle.converted.specs.Reading.{Convertible, old_entry, old_entries, WrittenAlike}

-- ---- numbers of bytes

module _ (k : ℕ) (bytes : List ℕ) (low : Below 256 bytes) (long : k ≤ length bytes) where
  front-long : length (take k bytes) ≡ k
  front-long = length-take-le k bytes long

  -- a number that was read is written as its bytes
  number-again : le_bytes k (little_endian k bytes) ≡ take k bytes
  unfolding little_endian
  number-again =
      ap (λ (n : ℕ). le_bytes n (number 256 (take k bytes))) (sym front-long) ∙ digits_number 256 (take k bytes) (below-take 256 k bytes low)

  number-low : little_endian k bytes < 256 ^ k
  unfolding little_endian
  number-low = rw front-long at (number_lt 256 (take k bytes) (below-take 256 k bytes low))

-- ---- entries with one stage and no key

one-stage : (es : List Entry) → Each (λ e. e.code.second ≡ none) es → second_stages es ≡ []
unfolding second_stages
one-stage [] h = refl
one-stage (e ∷ es) h = rw h.0 (one-stage es h.1)

no_entries : (i : ℕ) (es : List Entry) → Each (λ e. e.key ≡ none) es → key_entries i es ≡ []
unfolding key_entries
no_entries i [] h = refl
no_entries i (e ∷ es) h = rw h.0 (no_entries (suc i) es h.1)

module _ (file : List ℕ) (t : Convertible file) where
  abbrev n : ℕ
  n = count_in file

  abbrev w : ℕ
  w = old_block file

  abbrev stage_of : ℕ → Stage
  stage_of = old_stage (λ x. x) file

  -- ---- what was passed

  pub passed-head : old_head_fault file ≡ 0
  unfolding conversion_refusal
  passed-head = (all-passed _ t.accepted).0

  pub passed-body : old_body_fault file ≡ 0
  unfolding conversion_refusal
  passed-body = (all-passed _ t.accepted).1.0

  bounds : (dim_in file ≤ 4096) × (n ≤ 65536)
  bounds = limits file passed-head

  ends : old_end file ≤ length file
  unfolding old_body_fault
  ends = ltb-false (length file) (old_end file) (when-none _ 13 (all-passed _ passed-body).0)

  dim-some : 1 ≤ dim_in file
  unfolding old_body_fault
  dim-some = let z : dim_in file ≡ 0 → ⊥ = eqb-false (dim_in file) 0 (when-none _ 16 (all-passed _ passed-body).1.0) in omega arith

  stages-long : n * 4 + n * w ≤ length (old_stages file)
  stages-long = omega (arith, ends, length-drop 24 file)

  codes-long : n * w ≤ length (drop (n * 4) (old_stages file))
  codes-long = omega (arith, stages-long, length-drop (n * 4) (old_stages file))

  -- ---- it can be written

  stages-low : Below 256 (old_stages file)
  stages-low = below-drop 256 24 file t.bytes

  scale-low : (i : ℕ) → i < n → little_endian 4 (drop (i * 4) (old_stages file)) < 256 ^ 4
  scale-low i l =
      number-low 4 (drop (i * 4) (old_stages file)) (below-drop 256 (i * 4) (old_stages file) stages-low)
      (omega (arith, stages-long, length-drop (i * 4) (old_stages file)))

  block-sized : (i : ℕ) → i < n → length (block_at w i (drop (n * 4) (old_stages file))) ≡ w
  block-sized i l =
      let m : suc i * w ≤ n * w = mul-le-mul_right w l in
      length-block w i (drop (n * 4) (old_stages file)) (omega (arith, m, codes-long, suc-mul i w))

  old-ranged : Ranged (old_header file)
  unfolding old_header
  old-ranged =
      let least = le-leb 1 (dim_in file) dim-some in
      record {
        dim = rw (least, le-leb (dim_in file) 4096 bounds.0);
        working_dim = rw (least, le-leb (dim_in file) (dim_in file) (omega arith));
        bits = refl;
        residual = refl;
      }

  pub writable : Writable (old_header file) (old_entries file)
  unfolding old_header old_stage
  writable =
      record {
        header = old-ranged;
        seed = number-low 8 (drop 12 file) (below-drop 256 12 file t.bytes) (omega (arith, ends, length-drop 12 file));
        few = omega (arith, bounds.1, length-tab (old_entry file) n);
        entries =
            each-tab (Holdable (old_header file)) (old_entry file) n
            (λ i l. record { shape = record { first = block-sized i l; second = refl }; scale = scale-low i l; scale2 = tt; key = tt; year = omega arith });
      }

  -- ---- its bytes

  -- dim, seed and count as they were
  fields : le_bytes 4 (dim_in file) ++ le_bytes 8 (little_endian 8 (drop 12 file)) ++ le_bytes 4 n ≡ take 16 (drop 8 file)
  fields =
      let tail = drop 8 file in
      let low = below-drop 256 8 file t.bytes in
      let seed = number-again 8 (drop 12 file) (below-drop 256 12 file t.bytes) (omega (arith, ends, length-drop 12 file)) in
      let count = number-again 4 (drop 20 file) (below-drop 256 20 file t.bytes) (omega (arith, ends, length-drop 20 file)) in
      let dim = number-again 4 tail low (omega (arith, ends, length-drop 8 file)) in
      ap₂ (λ (xs ys : List ℕ). xs ++ ys) dim (ap₂ (λ (xs ys : List ℕ). xs ++ ys) seed count)
      ∙ sym
      (take-add 4 12 tail
      ∙ ap (λ (bs : List ℕ). take 4 tail ++ bs)
      (ap (take 12) (drop-drop 4 8 file) ∙ take-add 8 4 (drop 12 file) ∙ ap (λ (bs : List ℕ). take 8 (drop 12 file) ++ take 4 bs) (drop-drop 8 12 file)))

  halves-are : joined (map (λ (g : Stage). le_bytes 2 (narrowed g.scale)) (tab stage_of n)) ≡ halves_of (scale_bytes file)
  unfolding old_stage
  halves-are =
      let half : ℕ → List ℕ = λ x. le_bytes 2 (narrowed x) in
      ap joined
      (map-tab (λ (g : Stage). half g.scale) stage_of n ∙ sym (map-tab half (scale_at (old_stages file)) n)
      ∙ ap (map half) (sym (scales-first n (old_stages file) (omega (arith, stages-long)))))

  codes-are : joined (map (λ (g : Stage). g.block) (tab stage_of n)) ≡ code_bytes file
  unfolding old_stage
  codes-are =
      ap joined (map-tab (λ (g : Stage). g.block) stage_of n) ∙ joined-blocks w n (drop (n * 4) (old_stages file)) codes-long

  stage-is : stage_bytes (map (λ e. e.code.first) (old_entries file)) ≡ halves_of (scale_bytes file) ++ code_bytes file
  stage-is = ap stage_bytes (map-tab (λ (e : Entry). e.code.first) (old_entry file) n) ∙ ap₂ (λ (hs bs : List ℕ). hs ++ bs) halves-are codes-are

  no_years : no_duty (old_entries file) ≡ true
  no_years = each_all (λ e. eqb e.year 1) (old_entries file) (each-tab (λ e. eqb e.year 1 ≡ true) (old_entry file) n (λ i l. refl))

  -- the head for m slots, its working_dim field 0 where `same`
  abbrev head_of : (version : ℕ) → (same : Bool) → (m : ℕ) → List ℕ
  head_of v same m =
      magic ++ le_bytes 2 v ++ le_bytes 2 (cond same 0 (dim_in file)) ++ le_bytes 4 (dim_in file) ++ le_bytes 8 (little_endian 8 (drop 12 file)) ++ le_bytes 4 m

  head-is : head_of 259 true n ≡ new_head file
  head-is = ap (λ (bs : List ℕ). magic ++ le_bytes 2 259 ++ le_bytes 2 0 ++ bs) fields

  abbrev blocks : (head stage : List ℕ) → (seconds : List Stage) → (keys : List (List ℕ)) → List ℕ
  blocks head stage seconds keys = head ++ [] ++ stage ++ stage_bytes seconds ++ le_bytes 4 (length keys) ++ joined keys

  as-written : file_of (old_header file) (old_entries file) ≡ blocks (head_of 259 true n) (halves_of (scale_bytes file) ++ code_bytes file) [] []
  unfolding plain_file form_of old_header
  as-written =
      let same : eqb (dim_in file) (dim_in file) ≡ true = eq-eqb (dim_in file) (dim_in file) refl in
      let many : length (old_entries file) ≡ n = length-tab (old_entry file) n in
      let seconds : second_stages (old_entries file) ≡ [] = one-stage (old_entries file) (each-tab (λ e. e.code.second ≡ none) (old_entry file) n (λ i l. refl)) in
      let keys : key_entries 0 (old_entries file) ≡ [] = no_entries 0 (old_entries file) (each-tab (λ e. e.key ≡ none) (old_entry file) n (λ i l. refl)) in
      written-as-before (old_header file) (old_entries file) no_years ∙ (λ i. blocks (head_of 259 (same i) (many i)) (stage-is i) (seconds i) (keys i))

  put-together : (head halves codes : List ℕ) → blocks head (halves ++ codes) [] [] ≡ head ++ halves ++ codes ++ no_keys
  unfolding joined
  put-together head halves codes =
      append-nil (head ++ [] ++ (halves ++ codes) ++ [] ++ no_keys)
      ∙ ap (λ (bs : List ℕ). bs ++ no_keys)
      (append-nil (head ++ [] ++ (halves ++ codes)) ∙ ap (λ (bs : List ℕ). bs ++ (halves ++ codes)) (append-nil head) ∙ sym (append_assoc head halves codes))

  written : converted file ≡ file_of (old_header file) (old_entries file)
  unfolding converted
  written =
      let halves = halves_of (scale_bytes file) in
      sym
      (as-written ∙ ap (λ (head : List ℕ). blocks head (halves ++ code_bytes file) [] []) head-is ∙ put-together (new_head file) halves (code_bytes file))

pub written-alike : WrittenAlike
written-alike = written
