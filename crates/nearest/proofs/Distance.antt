-- The cascade's distance lane by lane: what it looks at, how large it can be, and that the program's sums are it.
use mathlib.Core.Path.{◌≡◌, refl, sym, ap, ◌∙◌}
use mathlib.Core.Bool.{true, cond}
use mathlib.Core.List.{List, [], map}
use mathlib.Core.Option.{none}
use Prim.Native.Nat.{ℕ, ◌/◌, ◌≤◌, ◌<◌}
use native.Mathlib.Omega.{arith}
use lib.ListN.{length, take, get_or}
use lib.Ieee.{Float, nan}
use Rattle.lists.specs.Lists.{tab, over, zip_with, total}
use Rattle.lists.proofs.Laws.{get_d_default, tab-ext, zip-tab}
use Rattle.lists.proofs.Entries.{entries}
use Rattle.lists.proofs.Front.{get_d_front, tab-map}
use Rattle.pattern.specs.Binary32.{◌⊗◌}
use Rattle.lloyd.specs.Tables.{by_width, levels_of, boundaries_of, in_places}
use Rattle.lloyd.specs.Quantizer.{quantized}
use Rattle.lloyd.proofs.Quantized.{quantized-le}
use Rattle.lloyd.proofs.Widths.{boundaries-length, boundaries-count}
use Rattle.lloyd.proofs.Places.{lent}
use Rattle.codes.specs.Packing.{code_at, unpacked, bytes_per_vector}
use Rattle.codes.specs.Slots.{block_at}
use Rattle.codes.specs.Writing.{at_width}
use Rattle.codes.proofs.Packing.{length-unpacked, get_or-unpacked}
use Rattle.codes.proofs.Tests.{at_width_lem}
use Rattle.unit.specs.Brought.{Query}
use Rattle.unit.specs.Unit.{rnorm, prepared, unit, norm}
use Rattle.padding.specs.Rotatable.{rotatable}
use Rattle.unit.specs.Calls.{query, prepared_into}
use Rattle.vectors.proofs.Filling.{length-divided}
use Rattle.unit.proofs.Vectors.{length-rotated}
use Rattle.encode.specs.declared.Header.{Header}
use Rattle.encode.specs.Header.{padded, block_size}
use Rattle.encode.specs.Coded.{Code, rotated_of}
use Rattle.index.specs.Arrays.{Arrays}
use Rattle.index.specs.State.{stage_at, slot_at}
use Rattle.index.specs.Codec.{apart, distance_by_table, table_of, distance}
use Rattle.marks.specs.Live.{live_at}
use Rattle.nearest.specs.Distances.{distance_at, past, live_distance}
use Rattle.nearest.specs.Lanes.{top_of, lane_apart, lanes_apart, slot_apart}
use Rattle.nearest.specs.Pairs.{Low}
use Rattle.nearest.proofs.Lanes.{total-most, top-low}
use Rattle.nearest.proofs.Pairs.{written_at}

-- it looks at a slot's first block only
pub distance-slot : (h : Header) (a : Arrays) (q : Query) (i : ℕ) → distance_at h a.codes q i ≡ distance h q (slot_at h a i).code
unfolding distance_at distance_by_table slot_at
distance-slot h a q i = refl

-- ---- lane by lane

-- the top two bits of the query's code in a lane
abbrev query_top : Header → Query → ℕ → ℕ
query_top h q i = top_of (table_of h).boundaries (rnorm (rotated_of h q.vector)) (get_or (prepared (rotated_of h q.vector)) i nan)

length-query : (h : Header) (q : Query) → length (prepared (rotated_of h q.vector)) ≡ padded h
unfolding unit
length-query h q = length-divided (norm (rotated_of h q.vector)) (rotated_of h q.vector) ∙ length-rotated h.working_dim h.seed q.vector

distance-lanes : (h : Header) (q : Query) (c : Code) → distance h q c ≡ total (tab (λ i. apart (query_top h q i) (code_at 4 c.first.block i / 4)) (padded h))
unfolding distance_by_table top_of
distance-lanes h q c =
    ap total (ap (λ (xs : List ℕ). zip_with lane xs (unpacked 4 (padded h) block)) codes ∙ ap (zip_with lane (tab code (padded h)))
    (entries _ 0 (padded h) (length-unpacked 4 (padded h) block) ∙ tab-ext _ _ (padded h) (get_or-unpacked 4 (padded h) block))
    ∙ zip-tab lane code (code_at 4 block) (padded h))
  where
    block : List ℕ
    block = c.first.block

    lane : ℕ → ℕ → ℕ
    lane a b = apart (a / 4) (b / 4)

    code : ℕ → ℕ
    code i = quantized (table_of h).boundaries (get_or (prepared (rotated_of h q.vector)) i nan ⊗ rnorm (rotated_of h q.vector))

    quantized_times : Float → ℕ
    quantized_times x = quantized (table_of h).boundaries (x ⊗ rnorm (rotated_of h q.vector))

    ys : List Float
    ys = prepared (rotated_of h q.vector)

    codes : map (λ x. quantized (table_of h).boundaries (x ⊗ rnorm (rotated_of h q.vector))) (prepared (rotated_of h q.vector)) ≡ tab code (padded h)
    codes = sym (tab-map quantized_times code ys (λ i d l. ap quantized_times (get_d_default ys i nan d l))) ∙ ap (tab code) (length-query h q)

-- ---- how large it can be

module _ (bs : List Float) (few : length bs ≤ 15) where
  top-most : (r x : Float) → top_of bs r x ≤ 3
  unfolding top_of
  top-most r x = omega (arith, quantized-le bs (x ⊗ r))

  pub tops-low : (next : List Float) (r : Float) (lanes : ℕ) (old tops : List ℕ) → tops ≡ over (tab (λ i. top_of bs r (get_or next i nan)) lanes) old → Low tops lanes
  tops-low next r lanes old tops e i l = rw (written_at (λ j. top_of bs r (get_or next j nan)) lanes old tops e i l) (top-most r (get_or next i nan))

few-boundaries : (w : ℕ) → w ≡ 4 → length (boundaries_of w) ≤ 15
unfolding levels_of by_width
few-boundaries w e = rw e (omega (arith, boundaries-length 4))

-- the boundaries of width 4 in the first places of an array, lent
pub own-table : {places : List Float} → places ≡ in_places (boundaries_of 4) → take 15 places ≡ boundaries_of 4
unfolding levels_of by_width
own-table {places} e = lent (boundaries_of 4) places 15 e (boundaries-count 4 16 refl)

pub few-own : {bs : List Float} → bs ≡ boundaries_of 4 → length bs ≤ 15
few-own e = rw e (few-boundaries 4 refl)

pub distance-below : (h : Header) (codes : List ℕ) (q : Query) (i : ℕ) → padded h ≤ 4096 → h.bits ≡ 4 → distance_at h codes q i < past
unfolding distance_at
distance-below h codes q i l width =
    let c : Code = record { first = stage_at h [] codes i; second = none } in
    omega (
      arith,
      distance-lanes h q c,
      total-most (λ j. apart (query_top h q j) (code_at 4 c.first.block j / 4)) 3 (padded h)
          (λ j k. omega (arith, top-most (table_of h).boundaries (few-boundaries h.bits width) (rnorm (rotated_of h q.vector)) (get_or (prepared (rotated_of h q.vector)) j nan), top-low c.first.block j)),
    )

-- ---- the program's sums

module _ (h : Header) (q : Query) (out next : List Float) (r : Float) (t : rotatable h.working_dim (length q.vector) (length out) ≡ true)
    (into : query r next ≡ prepared_into h.working_dim h.seed q.vector out)
    (bs : List Float) (own : bs ≡ (table_of h).boundaries) (lanes : ℕ) (many : lanes ≡ padded h)
    (old tops : List ℕ) (written : tops ≡ over (tab (λ i. top_of bs r (get_or next i nan)) lanes) old) where
  prepared-query : query r next ≡ query (rnorm (rotated_of h q.vector)) (over (prepared (rotated_of h q.vector)) out)
  unfolding prepared_into
  prepared-query = into ∙ rw t

  top-at : (i : ℕ) → i < lanes → get_or tops i 0 ≡ query_top h q i
  top-at i l =
      written_at (λ j. top_of bs r (get_or next j nan)) lanes old tops written i l
      ∙ (λ j. top_of (own j) (prepared-query j).rnorm (get_or (prepared-query j).out i nan))
      ∙ ap (top_of (table_of h).boundaries (rnorm (rotated_of h q.vector))) (get_d_front (prepared (rotated_of h q.vector)) out i nan (rw (length-query h q) (omega arith)))

  module _ (codes alive : List ℕ) (size : ℕ) (width : h.bits ≡ 4) (is : size ≡ at_width 4 (bytes_per_vector 4 lanes)) where
    size_is : size ≡ block_size h
    size_is = is ∙ at_width_lem (bytes_per_vector 4 lanes) (record { some = omega arith; most = omega arith }) ∙ (λ j. bytes_per_vector (sym width j) (many j))

    lanes-distance : (i : ℕ) → lanes_apart tops (block_at size i codes) lanes ≡ distance_at h codes q i
    unfolding lanes_apart lane_apart distance_at
    lanes-distance i =
        let first = stage_at h [] codes i in
        ap total (tab-ext _ _ lanes (λ j l k. apart (top-at j l k) (code_at 4 (block_at (size_is k) i codes) j / 4))
        ∙ ap (tab (λ j. apart (query_top h q j) (code_at 4 first.block j / 4))) many)
        ∙ sym (distance-lanes h q (record { first = first; second = none }))

    slot-measured : (i : ℕ) → slot_apart codes alive size tops lanes i ≡ live_distance h codes alive q i
    unfolding live_distance slot_apart
    slot-measured i = ap (λ (d : ℕ). cond (live_at alive i) d past) (lanes-distance i)

    -- what is written for all slots
    pub slots-measured : (n : ℕ) (places : List ℕ) → over (tab (slot_apart codes alive size tops lanes) n) places ≡ over (tab (live_distance h codes alive q) n) places
    slots-measured n places =
        ap (λ (ds : List ℕ). over ds places) (tab-ext (slot_apart codes alive size tops lanes) (live_distance h codes alive q) n (λ i l. slot-measured i))
