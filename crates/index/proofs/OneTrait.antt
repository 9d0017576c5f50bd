-- Games with one trait: proofs of specs/OneTrait.antt. That 10 is never given stands in Refusals.antt.
use mathlib.Core.Path.{◌≡◌, refl, sym, ap, ap₂, ◌∙◌}
use mathlib.Core.Bool.{Bool, true, false, not, cond, ◌&&◌, ◌||◌}
use mathlib.Core.List.{List, [], ◌∷◌, map, map-map}
use mathlib.Core.Option
use mathlib.Core.Option.{Option, none, some, some-injective}
use Prim.Native.Nat.{ℕ, suc, ◌+◌, ◌*◌, ◌/◌, ◌%◌}
use native.Mathlib.Omega.{arith}
use lib.ListN.{length, length-map, take, drop, get_or, get_elem?}
use lib.Dec.{leb, ltb, eqb}
use lib.Ieee.{Float, nan, is_nan}
use borrow.Author.Tests.{eqb-true}
use Rattle.pattern.specs.Binary32.{◌⊕◌, ◌⊗◌}
use Rattle.lists.specs.Lists.{tab, zip_with, total}
use Rattle.lists.specs.Keep.{keep, count}
use Rattle.lists.proofs.Tests.{both}
use Rattle.lists.proofs.Entries.{entries, tab-in, elem-map}
use Rattle.lists.proofs.Keep.{take-map, drop-map, keep-map, count_map}
use Rattle.lists.proofs.Front.{map-tab, tab-each}
use Rattle.choose.specs.Choose.{choose}
use Rattle.lloyd.specs.Tables.{levels_of, centroids_of}
use Rattle.lloyd.specs.Quantizer.{quantized}
use Rattle.lloyd.proofs.Widths.{centroids-length}
use Rattle.codes.specs.Packing.{bytes_per_vector, unpacked}
use Rattle.codes.specs.Slots.{block_at}
use Rattle.codes.specs.Stage.{Stage, stage}
use Rattle.vectors.proofs.Filling.{length-divided}
use Rattle.unit.specs.Unit.{rnorm, norm, unit, prepared}
use Rattle.unit.proofs.Vectors.{length-rotated}
use Rattle.encode.specs.declared.Header.{Header}
use Rattle.encode.specs.Header.{padded, block_size}
use Rattle.encode.specs.Coded.{Code, fault, rotated_of}
use Rattle.score.specs.Score.{block_products, of_block, raw_of_block, stage_score, slot_score, judged}
use Rattle.score.specs.OneTrait.{low_four, InBytes}
use Rattle.score.proofs.OneTrait.{lone-code, scored-by-trait}
use Rattle.index.specs.declared.Index.{Index}
use Rattle.index.specs.Arrays.{Arrays}
use Rattle.index.specs.State.{Slot, live, header_of, rooms, capacity, stage_at, slot_at, state_of, with_code}
use Rattle.index.specs.Fit.{row_at, fit_by_mark, fit}
use Rattle.index.specs.Codec.{score_by_table, score_of, apart, distance_by_table, distance, table_of}
use Rattle.index.specs.Step.{Op, score, search, search_keyed, search_cascade, Query, Answer, score_is, hits, first_of, when, unless, Cell, live_from, key_of_mark, Hit, hit_of, hits_of, rank, query_refusal, short_result, by_slot, searched, nearer, candidates, wide, searched_cascade, score_answer, step}
use Rattle.index.specs.Call.{call, Result}
use Rattle.index.specs.Ties.{slot_search}
use Rattle.index.specs.Answers.{scored}
use Rattle.index.specs.Sound.{block_length, Shaped}
use Rattle.index.specs.OneTrait.{one_trait, query_entry, trait_score_of, ScoresByTrait, with_codes, high_cleared, ScoresAlike, HighBitsIdle}
use Rattle.index.proofs.Calls.{call-misfit, call_fits}
use Rattle.index.proofs.Fits.{fitting, slots-shaped}
use Rattle.index.proofs.Passed.{score-judged}

-- ---- a header of one trait

module _ (h : Header) (one : one_trait h ≡ true) where
  single : padded h ≡ 1
  single = eqb-true (padded h) 1 (both (eqb (padded h) 1) (eqb h.bits 4) one).0

  four : h.bits ≡ 4
  four = eqb-true h.bits 4 (both (eqb (padded h) 1) (eqb h.bits 4) one).1

  -- the prepared query is its one entry
  entry-alone : (q : Query) → prepared (rotated_of h q.vector) ≡ query_entry h q ∷ []
  unfolding unit
  entry-alone q = let xs = rotated_of h q.vector in entries (prepared xs) nan 1 (length-divided (norm xs) xs ∙ length-rotated h.working_dim h.seed q.vector ∙ single)

  -- so the score is that of a query of one entry at width 4
  at-four : (q : Query) (c : Code) → score_of h q c ≡ slot_score 4 (centroids_of 4) (query_entry h q ∷ []) c.first c.second
  unfolding score_by_table
  at-four q c = λ j. slot_score (four j) (centroids_of (four j)) (entry-alone q j) c.first c.second

  in_bytes : (c : Code) → Shaped h c → InBytes c.first c.second
  unfolding bytes_per_vector
  in_bytes c s = go c.second s.second
    where
      byte : block_size h ≡ 1
      byte = ap₂ bytes_per_vector four single

      some_byte : (b : Bool) (n : ℕ) → some n ≡ cond b (some (block_size h)) none → n ≡ 1
      some_byte true n e = some-injective n (block_size h) e ∙ byte
      some_byte false n e = absurd (let z : ◌≡◌ {A = ℕ} 0 1 = cc in omega arith)

      go : (o : Option Stage) → block_length o ≡ cond h.residual (some (block_size h)) none → InBytes c.first o
      go none e = s.first ∙ byte
      go (some g) e = (s.first ∙ byte, some_byte h.residual (length g.block) e)

  pub trait-score : (q : Query) (c : Code) → Shaped h c → score_of h q c ≡ trait_score_of h q c
  unfolding levels_of
  trait-score q c s = at-four q c ∙ scored-by-trait (centroids_of 4) (query_entry h q) c.first c.second (centroids-length 4) (in_bytes c s)

-- ---- code bytes with the high four bits 0

low_same : (block : List ℕ) → low_four (high_cleared block) ≡ low_four block
low_same [] = refl
low_same (b ∷ bs) = omega arith

unpacked-low : (block : List ℕ) → unpacked 4 1 (high_cleared block) ≡ unpacked 4 1 block
unpacked-low block = lone-code (high_cleared block) ∙ ap (λ (n : ℕ). n ∷ []) (low_same block) ∙ sym (lone-code block)

block-low : (w i : ℕ) (codes : List ℕ) → block_at w i (high_cleared codes) ≡ high_cleared (block_at w i codes)
unfolding block_at
block-low w i codes = rw (length-map codes (λ b. b % 16), drop-map (λ b. b % 16) (i * w) codes, take-map (λ b. b % 16) w (drop (i * w) codes)) (go (leb (i * w + w) (length codes)))
  where
    go : (b : Bool) → cond b (map (λ b. b % 16) (take w (drop (i * w) codes))) [] ≡ map (λ b. b % 16) (cond b (take w (drop (i * w) codes)) [])
    go true = refl
    go false = refl

abbrev low_stage : Stage → Stage
low_stage g = stage g.scale (high_cleared g.block)

abbrev low_code : Code → Code
low_code c = record { first = low_stage c.first; second = Option.map low_stage c.second }

abbrev low_slot : Slot → Slot
low_slot s = with_code s (low_code s.code)

abbrev low_cell : Cell → Cell
low_cell c = record { number = c.number; slot = low_slot c.slot }

-- ---- scores and distances are as before

module _ (h : Header) (one : one_trait h ≡ true) (q : Query) where
  stage-low : (cs : List Float) (entry : Float) (g : Stage) → stage_score 4 cs (entry ∷ []) (low_stage g) ≡ stage_score 4 cs (entry ∷ []) g
  unfolding stage_score raw_of_block of_block block_products
  stage-low cs entry g = rw (length-map g.block (λ b. b % 16), unpacked-low g.block)

  score-low : (c : Code) → score_of h q (low_code c) ≡ score_of h q c
  unfolding slot_score
  score-low c = at-four h one q (low_code c) ∙ go c.second ∙ sym (at-four h one q c)
    where
      go : (o : Option Stage) → slot_score 4 (centroids_of 4) (query_entry h q ∷ []) (low_stage c.first) (Option.map low_stage o) ≡
          slot_score 4 (centroids_of 4) (query_entry h q ∷ []) c.first o
      go none = stage-low (centroids_of 4) (query_entry h q) c.first
      go (some g) = ap₂ ◌⊕◌ (stage-low (centroids_of 4) (query_entry h q) c.first) (stage-low (centroids_of 4) (query_entry h q) g)

  distance-low : (c : Code) → distance h q (low_code c) ≡ distance h q c
  unfolding distance_by_table
  distance-low c =
      let xs = rotated_of h q.vector in
      let query_codes = map (λ x. quantized (table_of h).boundaries (x ⊗ rnorm xs)) (prepared xs) in
      ap (λ (codes : List ℕ). total (zip_with (λ a b. apart (a / 4) (b / 4)) query_codes codes))
      (rw (single h one) (unpacked-low c.first.block))

  hits-low : (cs : List Cell) → hits_of h q (map low_cell cs) ≡ hits_of h q cs
  hits-low cs = map-map (hit_of h q) low_cell cs ∙ (λ j. map (λ c. record { number = c.number; key = key_of_mark c.slot.mark; score = score-low c.slot.code j }) cs)

  nearer-low : (c d : Cell) → nearer h q (low_cell c) (low_cell d) ≡ nearer h q c d
  nearer-low c d = λ j.
      let a = distance-low c.slot.code j in
      let b = distance-low d.slot.code j in
      ltb a b || (eqb a b && ltb c.number d.number)

  candidates-low : (r : ℕ) (cs : List Cell) → candidates h q r (map low_cell cs) ≡ map low_cell (candidates h q r cs)
  unfolding candidates
  candidates-low r cs =
      keep-map low_cell (λ d. ltb (count (λ c. nearer h q c d) (map low_cell cs)) r) cs
      ∙ (λ j. map low_cell (keep (λ d. ltb (count_map low_cell (λ c. nearer h q c (low_cell d)) cs j) r) cs))
      ∙ (λ j. map low_cell (keep (λ d. ltb (count (λ c. nearer-low c d j) cs) r) cs))

  searched-low : (cs : List Cell) (k places : ℕ) (shown : List Hit → Answer) → searched h (map low_cell cs) q k places shown ≡ searched h cs q k places shown
  unfolding searched
  searched-low cs k places shown =
      λ j. unless (first_of (short_result k (length-map cs low_cell j) places ∷ query_refusal h q (hits-low cs j) ∷ [])) (shown (choose rank k (hits-low cs j)))

-- ---- the calls

live-low : (i : ℕ) (ss : List Slot) → live_from i (map low_slot ss) ≡ map low_cell (live_from i ss)
unfolding live_from
live-low i [] = refl
live-low i (s ∷ ss) = go (live s) (live-low (suc i) ss)
  where
    go : (b : Bool) → live_from (suc i) (map low_slot ss) ≡ map low_cell (live_from (suc i) ss) →
        cond b (record { number = i; slot = low_slot s } ∷ live_from (suc i) (map low_slot ss)) (live_from (suc i) (map low_slot ss)) ≡
        map low_cell (cond b (record { number = i; slot = s } ∷ live_from (suc i) ss) (live_from (suc i) ss))
    go true ih = rw ih
    go false ih = ih

module _ (x : Index) (a : Arrays) (one : one_trait (header_of x) ≡ true) where
  abbrev h : Header
  h = header_of x

  abbrev low : Arrays
  low = with_codes a (high_cleared a.codes) (high_cleared a.codes2)

  fit_low : fit x low ≡ fit x a
  unfolding fit fit_by_mark rooms row_at
  fit_low = rw (length-map a.codes (λ b. b % 16), length-map a.codes2 (λ b. b % 16))

  slot-low : (i : ℕ) → slot_at h low i ≡ low_slot (slot_at h a i)
  unfolding slot_at
  slot-low i = λ j. record {
    mark = (slot_at h a i).mark;
    code =
        record {
          first = stage (get_or a.scales i 0) (block-low (block_size h) i a.codes j);
          second = second h.residual j;
        };
    year = (slot_at h a i).year;
  }
    where
      second : (b : Bool) → cond b (some (stage_at h a.scales2 (high_cleared a.codes2) i)) none ≡ Option.map low_stage (cond b (some (stage_at h a.scales2 a.codes2 i)) none)
      second true = λ j. some (stage (get_or a.scales2 i 0) (block-low (block_size h) i a.codes2 j))
      second false = refl

  slots-low : (state_of x low).slots ≡ map low_slot (state_of x a).slots
  unfolding state_of
  slots-low = (λ j. tab (λ i. slot-low i j) x.n) ∙ sym (map-tab low_slot (slot_at h a) x.n)

  cells_low : live_from 0 (state_of x low).slots ≡ map low_cell (live_from 0 (state_of x a).slots)
  cells_low = ap (live_from 0) slots-low ∙ live-low 0 (state_of x a).slots

  -- both are 13, or both are the step's answer
  by-step : (op : Op) → (fit x a ≡ true → (step (capacity h low) (state_of x low) op).answer ≡ (step (capacity h a) (state_of x a) op).answer) →
      (call x low op).answer ≡ (call x a op).answer
  by-step op same = go (fit x a) refl
    where
      go : (b : Bool) → fit x a ≡ b → (call x low op).answer ≡ (call x a op).answer
      go true f = ap (λ (r : Result). r.answer) (call_fits x low op (fit_low ∙ f)) ∙ same f ∙ sym (ap (λ (r : Result). r.answer) (call_fits x a op f))
      go false f = ap (λ (r : Result). r.answer) (call-misfit x low op (fit_low ∙ f)) ∙ sym (ap (λ (r : Result). r.answer) (call-misfit x a op f))

  answer-low : (q : Query) (o : Option Slot) → score_answer h q (Option.map low_slot o) ≡ score_answer h q o
  unfolding score_answer
  answer-low q none = refl
  answer-low q (some s) = λ j. let y = score-low h one q s.code j in unless (first_of (fault h q.vector ∷ when (is_nan y) 12 ∷ [])) (score_is y)

  cascade-low : (q : Query) (k r places : ℕ) → searched_cascade (state_of x low) (live_from 0 (state_of x low).slots) q k r places ≡
      searched_cascade (state_of x a) (live_from 0 (state_of x a).slots) q k r places
  unfolding searched_cascade state_of
  cascade-low q k r places =
      let cs = live_from 0 (state_of x a).slots in
      let told : ℕ → List Hit → Answer = λ n xs.
      unless (first_of (short_result k n places ∷ when (not (x.cascade && eqb h.bits 4)) 11 ∷ query_refusal h q xs ∷ [])) (hits (map by_slot (choose rank k xs))) in
      (λ j. told (length (cells_low j)) (hits_of h q (candidates h q (wide k r (length (cells_low j))) (cells_low j))))
      ∙ (λ j. told (length-map cs low_cell j) (hits_of h q (candidates h q (wide k r (length-map cs low_cell j)) (map low_cell cs))))
      ∙ ap (told (length cs)) (ap (hits_of h q) (candidates-low h one q (wide k r (length cs)) cs) ∙ hits-low h one q (candidates h q (wide k r (length cs)) cs))

  listed-low : (q : Query) (k places : ℕ) (shown : List Hit → Answer) → searched h (live_from 0 (state_of x low).slots) q k places shown ≡
      searched h (live_from 0 (state_of x a).slots) q k places shown
  listed-low q k places shown = ap (λ (cs : List Cell). searched h cs q k places shown) cells_low ∙ searched-low h one q (live_from 0 (state_of x a).slots) k places shown

  pub scores-alike : ScoresAlike x low a
  unfolding step state_of
  scores-alike = record {
    scores = λ i q.
        by-step (score i q) (λ f. ap (λ (ss : List Slot). score_answer h q (get_elem? ss i)) slots-low ∙ ap (score_answer h q) (elem-map low_slot (state_of x a).slots i) ∙
        answer-low q (get_elem? (state_of x a).slots i));
    slots = slots;
    keys = λ q k places. by-step (search_keyed q k places) (λ f. listed-low q k places _);
  }
    where
      slots : (r : Option ℕ) (q : Query) (k places : ℕ) → (call x low (slot_search r q k places)).answer ≡ (call x a (slot_search r q k places)).answer
      slots none q k places = by-step (search q k places) (λ f. listed-low q k places _)
      slots (some r) q k places = by-step (search_cascade q k r places) (λ f. cascade-low q k r places)

pub high-bits-idle : HighBitsIdle
high-bits-idle x a one = scores-alike x a one

-- ---- the score that is answered

pub scores-by-trait : ScoresByTrait
unfolding step state_of
scores-by-trait x a i q one f l accepted =
    ap (λ (r : Result). r.answer) (call_fits x a (score i q) f)
    ∙ ap (score_answer (header_of x) q) (tab-in (slot_at (header_of x) a) x.n i l)
    ∙ score-judged (header_of x) q accepted (slot_at (header_of x) a i)
    ∙ ap (λ (y : Float). scored (judged y)) (trait-score (header_of x) one q (slot_at (header_of x) a i).code shaped)
  where
    shaped : Shaped (header_of x) (slot_at (header_of x) a i).code
    shaped = tab-each (λ s. Shaped (header_of x) s.code) (slot_at (header_of x) a) x.n (slots-shaped (header_of x) a x.n (fitting x a f).space) i l
