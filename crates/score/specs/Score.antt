-- The score of a slot under a prepared query (document 01, store.rs). The table of centroids is an argument: any table will do.
use Rattle.std.specs.Prelude.{List, ℕ, ◌*◌, ◌/◌, ◌^◌, Bool, ◌&&◌, cond, leb, eqb, length, take, drop, get_or, Float}
use Rattle.std.proofs.Math.Option.{Option, none, some}
use Rattle.std.specs.Float.{nan, binary32}
use Rattle.std.specs.Float.Ieee.{of_bits, is_nan}
use Rattle.pattern.specs.Binary32.{◌⊕◌, ◌⊗◌, +0, sum_of}
use Rattle.lists.specs.Lists.{zip_with}
use Rattle.lloyd.specs.Quantizer.{decoded}
use Rattle.codes.specs.Packing.{bytes_per_vector, unpacked}
use Rattle.codes.specs.Stage.{Stage}
use Rattle.score.specs.Lanes.{lanes, pair_sums, bracketed}
use Rattle.score.specs.declared.Scored.{Scored}
use Rattle.score.specs.declared.Scored.TheVariants.{Score, Refused}

-- ---- the raw score of codes

-- each entry of the query times its code's centroid
unfoldable pub products : (centroids : List Float) → (codes : List ℕ) → (query : List Float) → List Float
products centroids codes query = zip_with ◌⊗◌ query (decoded centroids codes)

-- "4-bit scoring (`score_scalar`): eight running sums, lane j taking byte i+j, then the tail". A byte's term is the sum of its two codes' products.
unfoldable pub byte_sums : List Float → Float
byte_sums products =
    let terms = pair_sums products in
    let n = length terms / 8 * 8 in
    bracketed 3 (lanes 8 (take n terms)) ⊕ sum_of (drop n terms)

-- "5 and 6 bits (`score_wide_scalar`): four sums by index modulo 4"
unfoldable pub index_sums : List Float → Float
index_sums products = bracketed 2 (lanes 4 products)

-- 02, Req 05: "At padded size 1 and width 4 .. the query entry .. times its centroid": the one product as it is, with nothing added to it
unfoldable pub lone_product : List Float → Float
lone_product products = get_or products 0 nan

-- the raw score: the products added up as the width says, and at 4 bits a single product by itself
unfoldable pub raw_sums : (w : ℕ) → List Float → Float
raw_sums w products = cond (eqb w 4) (cond (eqb (length products) 1) (lone_product products) (byte_sums products)) (index_sums products)

-- ---- the raw score of a block, as a slot stores it

-- the products of the codes in a block of w bits a code
unfoldable pub block_products : (w : ℕ) → (centroids : List Float) → (block : List ℕ) → (query : List Float) → List Float
block_products w centroids block query = products centroids (unpacked w (length query) block) query

-- what the bytes of a block of 4 bits a code add
abbrev pub byte_terms : (centroids : List Float) → (block : List ℕ) → (query : List Float) → List Float
byte_terms centroids block query = pair_sums (block_products 4 centroids block query)

-- a table, a block and a query of such lengths fit one another: the width is 4, 5 or 6, each code has its centroid, and each entry its code
unfoldable pub fitting : (w centroids block query : ℕ) → Bool
fitting w centroids block query = (leb 4 w && leb w 6) && (eqb centroids (2 ^ w) && eqb block (bytes_per_vector w query))

-- a block's products added up, and +0 where table, block and query don't fit one another
unfoldable pub of_block : (List Float → Float) → (w : ℕ) → (centroids : List Float) → (block : List ℕ) → (query : List Float) → Float
of_block sums w centroids block query = cond (fitting w (length centroids) (length block) (length query)) (sums (block_products w centroids block query)) +0

-- the raw score of a block
unfoldable pub raw_of_block : (w : ℕ) → (centroids : List Float) → (block : List ℕ) → (query : List Float) → Float
raw_of_block w = of_block (raw_sums w) w

-- ---- the score of a slot

-- of a stage: the raw score times the scale. A slot of a residual index has two stages.
unfoldable pub stage_score : (w : ℕ) → (centroids query : List Float) → Stage → Float
stage_score w centroids query s = raw_of_block w centroids s.block query ⊗ of_bits binary32 s.scale

-- the score of a slot: its stage's, or that of the first stage and that of the residual stage, added
unfoldable pub slot_score : (w : ℕ) → (centroids query : List Float) → (first : Stage) → (residual : Option Stage) → Float
slot_score w centroids query first none = stage_score w centroids query first
slot_score w centroids query first (some residual) = stage_score w centroids query first ⊕ stage_score w centroids query residual

-- the answer: "answer carries either the score or the refusal number". 12 is "a score to be ranked or returned is NaN".
unfoldable pub judged : Float → Scored
judged score = cond (is_nan score) (Refused 12) (Score score)
