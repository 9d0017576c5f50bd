-- The length of a file as a function of counts.
use mathlib.Core.Path.{◌≡◌, refl, ap, ap₂, ◌∙◌}
use mathlib.Core.Bool.{Bool, true, false, not, cond}
use mathlib.Core.List.{List, [], ◌∷◌, ◌++◌, map}
use mathlib.Core.Option.{Option, none, some}
use Prim.Native.Nat.{ℕ, suc, ◌+◌, ◌*◌}
use native.Mathlib.Nat.{zero-mul}
use native.Mathlib.Omega.{arith}
use lib.ListN.{length, length-append, length-map}
use lib.Dec.{eqb}
use Rattle.lists.specs.Keep.{bit, count, Each}
use Rattle.lists.proofs.Keep.{each_weaken, each-mem}
use Rattle.lists.proofs.Front.{each_map}
use Rattle.half.specs.Half.{narrowed}
use Rattle.codes.specs.Stage.{Stage}
use Rattle.encode.specs.declared.Header.{Header}
use Rattle.encode.specs.Header.{block_size}
use Rattle.lists.specs.Lists.{joined}
use Rattle.index.specs.declared.Form.{Form}
use Rattle.index.specs.Form.{form_of, stages_at, stage_size, years_size, second_at, keys_at, years_at, end_at}
use Rattle.index.specs.File.{Entry, le_bytes, no_duty, version_of, width_byte, head_bytes, stage_bytes, second_stages, key_entries, year_bytes, file_of}
use Rattle.index.specs.Sound.{Shaped, block_length}
use Rattle.index.proofs.Blocks.{length-joined}

-- ---- one stage: so many scales of two bytes, and so many blocks

abbrev Blocked : ℕ → List Stage → Type 0
Blocked w gs = Each (λ g. length g.block ≡ w) gs

pub stage-length : (w : ℕ) (gs : List Stage) → Blocked w gs → length (stage_bytes gs) ≡ length gs * 2 + length gs * w
stage-length w gs h =
    length-append (joined (map (λ (g : Stage). le_bytes 2 (narrowed g.scale)) gs)) (joined (map (λ (g : Stage). g.block) gs))
    ∙ omega (
      arith,
      length-joined 2 (map (λ (g : Stage). le_bytes 2 (narrowed g.scale)) gs)
          (each_map (λ b. length b ≡ 2) (λ g. le_bytes 2 (narrowed g.scale)) gs (each-mem (λ g. length (le_bytes 2 (narrowed g.scale)) ≡ 2) gs (λ g m. refl))),
      length-joined w (map (λ (g : Stage). g.block) gs) (each_map (λ b. length b ≡ w) (λ g. g.block) gs h),
      ap (λ (n : ℕ). n * 2) (length-map gs (λ (g : Stage). le_bytes 2 (narrowed g.scale))),
      ap (λ (n : ℕ). n * w) (length-map gs (λ (g : Stage). g.block)),
    )

-- ---- key entries: twelve bytes each, as many as there are keys

abbrev pub has_one : Option ℕ → Bool
has_one none = false
has_one (some k) = true

pub keyed-count : (i : ℕ) (es : List Entry) → length (key_entries i es) ≡ count (λ e. has_one e.key) es
unfolding key_entries
keyed-count i [] = refl
keyed-count i (e ∷ es) = go e.key (keyed-count (suc i) es)
  where
    go : (o : Option ℕ) → length (key_entries (suc i) es) ≡ count (λ e. has_one e.key) es →
        length (key_entries i (record { code = e.code; key = o; year = e.year } ∷ es)) ≡ bit (has_one o) + count (λ e. has_one e.key) es
    go none ih = omega (arith, ih)
    go (some k) ih = omega (arith, ih)

entries-sized : (i : ℕ) (es : List Entry) → Each (λ b. length b ≡ 12) (key_entries i es)
unfolding key_entries
entries-sized i [] = tt
entries-sized i (e ∷ es) = go e.key (entries-sized (suc i) es)
  where
    go : (o : Option ℕ) → Each (λ b. length b ≡ 12) (key_entries (suc i) es) → Each (λ b. length b ≡ 12) (key_entries i (record { code = e.code; key = o; year = e.year } ∷ es))
    go none h = h
    go (some k) h = (refl, h)

-- ---- what the written versions have

module _ (h : Header) (es : List Entry) where
  abbrev pub form : Form
  form = form_of (version_of h es)

  -- whatever holds of the six versions
  pub written-version : (P : ℕ → Type 0) → P 259 → P 260 → P 261 → P 262 → P 263 → P 264 → P (version_of h es)
  unfolding version_of
  written-version P four second width four_years second_years width_years = go h.residual (eqb h.bits 4) (no_duty es)
    where
      go : (b c d : Bool) → P (cond b 260 (cond c 259 261) + cond (not d) 3 0)
      go true c true = second
      go true c false = second_years
      go false true true = four
      go false true false = four_years
      go false false true = width
      go false false false = width_years

  pub form-keys : form.keys ≡ true
  unfolding form_of
  form-keys = written-version (λ v. (form_of v).keys ≡ true) refl refl refl refl refl refl

  pub form-working : form.working ≡ true
  unfolding form_of
  form-working = written-version (λ v. (form_of v).working ≡ true) refl refl refl refl refl refl

  pub form-known : form.known ≡ true
  unfolding form_of
  form-known = written-version (λ v. (form_of v).known ≡ true) refl refl refl refl refl refl

  pub form-second : form.second ≡ h.residual
  unfolding form_of version_of
  form-second = go h.residual (eqb h.bits 4) (no_duty es)
    where
      go : (b c d : Bool) → (form_of (cond b 260 (cond c 259 261) + cond (not d) 3 0)).second ≡ b
      go true c true = refl
      go true c false = refl
      go false true true = refl
      go false true false = refl
      go false false true = refl
      go false false false = refl

  -- there are years where some entry has one other than 1
  pub form-years : form.years ≡ not (no_duty es)
  unfolding form_of version_of
  form-years = go h.residual (eqb h.bits 4) (no_duty es)
    where
      go : (b c d : Bool) → (form_of (cond b 260 (cond c 259 261) + cond (not d) 3 0)).years ≡ not d
      go true c true = refl
      go true c false = refl
      go false true true = refl
      go false true false = refl
      go false false true = refl
      go false false false = refl

  width-length : length (width_byte (version_of h es) h) ≡ bit form.width
  width-length = go form.width
    where
      go : (b : Bool) → length (cond b (h.bits ∷ []) []) ≡ bit b
      go true = refl
      go false = refl

  years-length : length (year_bytes (version_of h es) es) ≡ years_size form (length es)
  years-length = go form.years
    where
      go : (b : Bool) → length (cond b (joined (map (λ (e : Entry). le_bytes 2 e.year) es)) []) ≡ cond b (length es * 2) 0
      go true =
          length-joined 2 (map (λ (e : Entry). le_bytes 2 e.year) es)
          (each_map (λ b. length b ≡ 2) (λ e. le_bytes 2 e.year) es (each-mem (λ e. length (le_bytes 2 e.year) ≡ 2) es (λ e m. refl)))
          ∙ ap (λ (n : ℕ). n * 2) (length-map es (λ (e : Entry). le_bytes 2 e.year))
      go false = refl

module _ (h : Header) where
  -- ---- the second stages of shaped codes: one each where the index is residual, and else none

  stages-of : (b : Bool) → h.residual ≡ b → (es : List Entry) → Each (λ e. Shaped h e.code) es →
      (length (second_stages es) ≡ cond b (length es) 0) × Blocked (block_size h) (second_stages es)
  unfolding second_stages
  stages-of b r [] s = (go b, tt)
    where
      go : (b : Bool) → ◌≡◌ {A = ℕ} 0 (cond b 0 0)
      go true = refl
      go false = refl
  stages-of b r (e ∷ es) s = go b e.code.second (s.0.second ∙ rw r) (stages-of b r es s.1)
    where
      more : Option Stage → List Stage
      more o = elim o [ none ↦ second_stages es | some g ↦ g ∷ second_stages es ]

      go : (b : Bool) (o : Option Stage) → block_length o ≡ cond b (some (block_size h)) none →
          (length (second_stages es) ≡ cond b (length es) 0) × Blocked (block_size h) (second_stages es) →
          (length (more o) ≡ cond b (suc (length es)) 0) × Blocked (block_size h) (more o)
      go true none f ih = absurd (let z : ◌≡◌ {A = ℕ} 0 1 = cc in omega arith)
      go true (some g) f ih = (ap suc ih.0, (cc, ih.1))
      go false none f ih = ih
      go false (some g) f ih = absurd (let z : ◌≡◌ {A = ℕ} 0 1 = cc in omega arith)

  module _ (es : List Entry) (shape : Each (λ e. Shaped h e.code) es) where
    first-blocks : Blocked (block_size h) (map (λ e. e.code.first) es)
    first-blocks =
        each_map (λ g. length g.block ≡ block_size h) (λ e. e.code.first) es
        (each_weaken (λ e. Shaped h e.code) (λ e. length e.code.first.block ≡ block_size h) es (λ e s. s.first) shape)

    -- ---- where each block begins

    abbrev pub to_stages : List ℕ
    to_stages = head_bytes (version_of h es) h (length es) ++ width_byte (version_of h es) h

    abbrev pub to_second : List ℕ
    to_second = to_stages ++ stage_bytes (map (λ e. e.code.first) es)

    abbrev pub to_keys : List ℕ
    to_keys = to_second ++ stage_bytes (second_stages es)

    pub stages-begin : length to_stages ≡ stages_at (form h es)
    stages-begin = length-append (head_bytes (version_of h es) h (length es)) (width_byte (version_of h es) h) ∙ omega (arith, width-length h es)

    pub second-begins : length to_second ≡ second_at (form h es) (block_size h) (length es)
    second-begins =
        length-append to_stages (stage_bytes (map (λ e. e.code.first) es))
        ∙ omega (
          arith,
          stages-begin,
          stage-length (block_size h) (map (λ e. e.code.first) es) first-blocks,
          ap (λ (n : ℕ). n * 2) (length-map es (λ (e : Entry). e.code.first)),
          ap (λ (n : ℕ). n * block_size h) (length-map es (λ (e : Entry). e.code.first)),
        )

    second-length : length (stage_bytes (second_stages es)) ≡ cond (form h es).second (stage_size (block_size h) (length es)) 0
    second-length = rw (form-second h es) (go h.residual (stages-of h.residual refl es shape))
      where
        go : (b : Bool) → (length (second_stages es) ≡ cond b (length es) 0) × Blocked (block_size h) (second_stages es) →
            length (stage_bytes (second_stages es)) ≡ cond b (length es * 2 + length es * block_size h) 0
        go true s = stage-length (block_size h) (second_stages es) s.1 ∙ rw s.0
        go false s = stage-length (block_size h) (second_stages es) s.1 ∙ rw s.0 (omega (arith, zero-mul (block_size h)))

    abbrev pub to_years : List ℕ
    to_years = to_keys ++ le_bytes 4 (length (key_entries 0 es)) ++ joined (key_entries 0 es)

    pub keys-begin : length to_keys ≡ keys_at (form h es) (block_size h) (length es)
    keys-begin = length-append to_second (stage_bytes (second_stages es)) ∙ rw (second-begins, second-length)

    pub years-begin : length to_years ≡ years_at (form h es) (block_size h) (length es) (count (λ e. has_one e.key) es)
    years-begin =
        length-append (to_keys ++ le_bytes 4 (length (key_entries 0 es))) (joined (key_entries 0 es))
        ∙ rw (form-keys h es)
        (omega (
          arith,
          length-append to_keys (le_bytes 4 (length (key_entries 0 es))),
          keys-begin,
          length-joined 12 (key_entries 0 es) (entries-sized 0 es),
          ap (λ (k : ℕ). k * 12) (keyed-count 0 es),
        ))

    -- ---- where the file ends

    pub file-length : length (file_of h es) ≡ end_at (form h es) (block_size h) (length es) (count (λ e. has_one e.key) es)
    unfolding file_of end_at
    file-length = length-append to_years (year_bytes (version_of h es) es) ∙ ap₂ ◌+◌ years-begin (years-length h es)
