-- Raw scores by the tables are those of the blocks.
use mathlib.Core.Path.{◌≡◌, refl, sym, ap, subst, ◌∙◌}
use mathlib.Core.Bool.{Bool, true, false, cond}
use mathlib.Core.List.{List}
use Prim.Native.Nat.{ℕ, ◌+◌, ◌-◌, ◌*◌, ◌/◌, ◌%◌, ◌^◌, ◌≤◌, ◌<◌}
use native.Mathlib.Omega.{arith}
use borrow.Author.Tests.{eqb-true, eq-eqb, ne_eqb, le-leb}
use lib.Dec.{eqb}
use lib.ListN.{length, take, drop, get_or}
use lib.Seq.{take-length, drop-length}
use lib.Ieee.{Float, binary32, of_bits}
use Rattle.pattern.specs.Binary32.{◌⊕◌, ◌⊗◌, +0, sum_from}
use Rattle.marks.specs.Live.{live_at}
use Rattle.digits.specs.Digits.{Below}
use Rattle.digits.proofs.Below.{below-take, below-drop}
use Rattle.codes.specs.Packing.{bytes_per_vector}
use Rattle.codes.proofs.Slots.{block-there, length-block}
use Rattle.score.specs.Lanes.{bracketed}
use Rattle.score.specs.Score.{lone_product, byte_sums, index_sums, raw_sums, block_products, byte_terms, fitting, of_block, raw_of_block, stage_score}
use Rattle.score.proofs.Products.{length-products, length-terms}
use Rattle.scan.specs.Scan.{stage_of, score_now}
use Rattle.scan.specs.Pairs.{Paired, Halved}
use Rattle.scan.specs.Groups.{part_at, byte_lanes, wide_lanes, raw_by, score_by, raw_from, Summed, Raw, Rescored, Grouped}
use Rattle.scan.proofs.Products.{pair-products, byte-terms}
use Rattle.scan.proofs.Entries.{changed-like, entry-like}
use Rattle.scan.proofs.Sizes.{block_size, slot-within}

-- ---- a block

module _ (cs pairs query evens odds : List Float) (block : List ℕ) (bytes : Below 256 block) (q : Halved query evens odds (length query / 2)) (groups : length query % 16 ≡ 0) where
  byte-raw : Paired 4 cs pairs 256 → length cs ≡ 16 → length block ≡ bytes_per_vector 4 (length query)
      → bracketed 3 (byte_lanes evens odds pairs block) ⊕ +0 ≡ byte_sums (block_products 4 cs block query)
  unfolding byte_lanes byte_sums sum_from
  byte-raw p e size =
      let ts = byte_terms cs block query in
      let long : length block ≡ length query / 2 = size ∙ block_size 4 (length query) (omega arith) ∙ omega arith in
      let all : length ts / 8 * 8 ≡ length ts = omega (arith, length-terms cs block query) in
      rw (byte-terms cs pairs query evens odds p q block e bytes long, all, take-length ts, drop-length ts)

  wide-raw : (w : ℕ) → Paired w cs pairs (2 ^ w * 2 ^ w) → length cs ≡ 2 ^ w → bracketed 2 (wide_lanes w pairs query block) ≡ index_sums (block_products w cs block query)
  unfolding wide_lanes index_sums
  wide-raw w p e = rw (pair-products w cs pairs p block query e)

  abbrev products : (w : ℕ) → List Float
  products w = block_products w cs block query

  -- groups of 16 are more than one
  not-lone : (w : ℕ) → length (products w) ≡ 1 → ⊥
  not-lone w one = omega (arith, one, length-products w cs block query, groups)

  pub raw-by : (w : ℕ) → 4 ≤ w → w ≤ 6 → Paired w cs pairs (2 ^ w * 2 ^ w) → length cs ≡ 2 ^ w → length block ≡ bytes_per_vector w (length query)
      → raw_by w evens odds pairs query block ≡ raw_of_block w cs block query
  unfolding raw_by raw_of_block of_block raw_sums fitting
  raw-by w from to p e size = rw (le-leb 4 w from, le-leb w 6 to, eq-eqb (length cs) (2 ^ w) e, eq-eqb (length block) (bytes_per_vector w (length query)) size) (go (eqb w 4) refl)
    where
      go : (b : Bool) → eqb w 4 ≡ b
          → cond b (bracketed 3 (byte_lanes evens odds pairs block) ⊕ +0) (bracketed 2 (wide_lanes w pairs query block))
          ≡ cond b (cond (eqb (length (products w)) 1) (lone_product (products w)) (byte_sums (products w))) (index_sums (products w))
      go true f =
          let four : w ≡ 4 = eqb-true w 4 f in
          rw (ne_eqb (length (products w)) 1 (not-lone w))
          (byte-raw (subst (λ (z : ℕ). Paired z cs pairs (2 ^ z * 2 ^ z)) four p) (e ∙ ap (λ (z : ℕ). 2 ^ z) four) (size ∙ ap (λ (z : ℕ). bytes_per_vector z (length query)) four)
          ∙ ap (λ (z : ℕ). byte_sums (products z)) (sym four))
      go false f = wide-raw w p e

-- ---- a slot

module _ (w : ℕ) (cs pairs query evens odds : List Float) (size : ℕ) (codes scales : List ℕ) (n centroids : ℕ) where
  pub score-by : Grouped w (length cs) (length query) size (length codes) centroids n → Below 256 codes → Halved query evens odds (length query / 2)
      → Paired w cs pairs (2 ^ w * 2 ^ w) → (i : ℕ) → i < n
      → score_by w evens odds pairs query size codes scales i ≡ stage_of w cs query size codes scales i
  unfolding score_by stage_of stage_score part_at
  score-by g bytes q p i l =
      let there : i * size + size ≤ length codes = slot-within i n size (length codes) l g.codes-there in
      let long : length (take size (drop (i * size) codes)) ≡ size = sym (ap length (block-there size i codes there)) ∙ length-block size i codes there in
      ap (λ (x : Float). x ⊗ of_bits binary32 (get_or scales i 0))
      (raw-by cs pairs query evens odds (take size (drop (i * size) codes)) (below-take 256 size (drop (i * size) codes) (below-drop 256 (i * size) codes bytes)) q g.groups
      w g.from g.to p g.table (long ∙ g.block)
      ∙ ap (λ (b : List ℕ). raw_of_block w cs b query) (sym (block-there size i codes there)))

-- ---- a group

module _ (w : ℕ) (evens odds pairs query : List Float) (size : ℕ) (codes marks : List ℕ) (first many : ℕ) (sums : List Float) where
  abbrev raw : ℕ → Float
  raw i = raw_by w evens odds pairs query (part_at size i codes)

  pub raw-bytes : w ≡ 4 → Summed 8 (λ i. byte_lanes evens odds pairs (part_at size i codes)) marks first many many sums → Raw w raw marks first many sums
  unfolding raw_from raw_by
  raw-bytes e s = record { each = λ k l t. rw (eq-eqb w 4 e, s.each k l l t) }

  pub raw-wide : (w ≡ 4 → ⊥) → Summed 4 (λ i. wide_lanes w pairs query (part_at size i codes)) marks first many many sums → Raw w raw marks first many sums
  unfolding raw_from raw_by
  raw-wide n s = record { each = λ k l t. rw (ne_eqb w 4 n, s.each k l l t) }

  -- so the entries are those of the scores
  pub group-changed : (scales : List ℕ) (second : Bool) (all next : List Float) → Raw w raw marks first many sums
      → Rescored (score_now (λ i. raw_from w sums (i - first) ⊗ of_bits binary32 (get_or scales i 0)) marks second) first (first + many) all next
      → Rescored (score_now (score_by w evens odds pairs query size codes scales) marks second) first (first + many) all next
  unfolding score_by
  group-changed scales second all next r =
      changed-like (score_now (λ i. raw_from w sums (i - first) ⊗ of_bits binary32 (get_or scales i 0)) marks second)
      (score_now (λ i. raw i ⊗ of_bits binary32 (get_or scales i 0)) marks second) first (first + many) all next
      (λ i old p q. entry-like (λ i. raw_from w sums (i - first) ⊗ of_bits binary32 (get_or scales i 0)) marks second (λ i. raw i ⊗ of_bits binary32 (get_or scales i 0)) i old
      (λ t.
      let e : first + (i - first) ≡ i = omega arith in
      ap (λ (x : Float). x ⊗ of_bits binary32 (get_or scales i 0))
      (r.each (i - first) (omega arith) (ap (live_at marks) e ∙ t) ∙ ap raw e)))
