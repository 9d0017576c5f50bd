-- Stages that were written, read back: scales as halves, blocks as they are.
use mathlib.Core.Path.{◌≡◌, refl, sym, ap, ap₂, ◌∙◌}
use mathlib.Core.List.{List, [], ◌++◌, map, append_assoc}
use Prim.Native.Nat.{ℕ, suc, ◌*◌, ◌^◌, ◌≤◌, ◌<◌}
use native.Mathlib.Nat.{suc-mul, mul-le-mul_right}
use native.Mathlib.Omega.{arith}
use lib.ListN.{length, take, drop, get_or, length-append, length-map, get_or-map}
use lib.Seq.{drop_at}
use Rattle.lists.specs.Lists.{over, joined}
use Rattle.lists.specs.Keep.{Each}
use Rattle.lists.proofs.Front.{each_map, each_at}
use Rattle.lists.proofs.Keep.{each-mem}
use Rattle.digits.specs.Digits.{number}
use Rattle.half.specs.Half.{narrowed, widened}
use Rattle.codes.specs.Stage.{Stage}
use Rattle.codes.specs.Slots.{block_at}
use Rattle.index.specs.File.{le_bytes, stage_bytes}
use Rattle.index.specs.Read.{little_endian, stage_from}
use Rattle.index.proofs.Blocks.{block-there, length-joined, block-over}
use Rattle.round_trip.specs.Back.{halved}
use Rattle.round_trip.proofs.Fields.{le-back}

-- a block among blocks of one size, whatever follows them
module _ (w : ℕ) (bs : List (List ℕ)) (rest : List ℕ) (sized : Each (λ b. length b ≡ w) bs) where
  over-itself : over (joined bs) (joined bs ++ rest) ≡ joined bs ++ rest
  unfolding over
  over-itself = ap (λ (ys : List ℕ). joined bs ++ ys) (drop_at (joined bs) rest (length (joined bs)) refl)

  long : length bs * w ≤ length (joined bs ++ rest)
  long = omega (arith, length-append (joined bs) rest, length-joined w bs sized)

  pub block_back : (i : ℕ) (d : List ℕ) → i < length bs → block_at w i (joined bs ++ rest) ≡ get_or bs i d
  block_back i d l = ap (block_at w i) (sym over-itself) ∙ block-over w bs (joined bs ++ rest) sized long i d l

  pub cut-back : (i : ℕ) (d : List ℕ) → i < length bs → take w (drop (i * w) (joined bs ++ rest)) ≡ get_or bs i d
  cut-back i d l =
      let m : suc i * w ≤ length bs * w = mul-le-mul_right w l in
      sym (block-there w i (joined bs ++ rest) (omega (arith, long, suc-mul i w))) ∙ block_back i d l

  pub after-blocks : drop (length bs * w) (joined bs ++ rest) ≡ rest
  after-blocks = drop_at (joined bs) rest (length bs * w) (length-joined w bs sized)

-- numbers of 16 bits, whatever follows them
module _ {X : Type 0} (of : X → ℕ) (xs : List X) (rest : List ℕ) where
  abbrev pub numbers : List (List ℕ)
  numbers = map (λ x. le_bytes 2 (of x)) xs

  pub numbers-sized : Each (λ b. length b ≡ 2) numbers
  numbers-sized = each_map (λ b. length b ≡ 2) (λ x. le_bytes 2 (of x)) xs (each-mem (λ x. length (le_bytes 2 (of x)) ≡ 2) xs (λ x m. refl))

  pub number-back : Each (λ x. of x < 256 ^ 2) xs → (i : ℕ) (d : X) → i < length xs → little_endian 2 (drop (i * 2) (joined numbers ++ rest)) ≡ of (get_or xs i d)
  unfolding little_endian
  number-back low i d l =
      ap (number 256)
      (cut-back 2 numbers rest numbers-sized i (le_bytes 2 (of d)) (rw (length-map xs (λ (x : X). le_bytes 2 (of x))) l)
      ∙ get_or-map (λ (x : X). le_bytes 2 (of x)) xs i d)
      ∙ le-back 2 (of (get_or xs i d)) [] (each_at (λ x. of x < 256 ^ 2) xs i d low l)

module _ (w : ℕ) (gs : List Stage) (rest : List ℕ) (sized : Each (λ g. length g.block ≡ w) gs) (low : Each (λ g. narrowed g.scale < 256 ^ 2) gs) where
  abbrev half_of : Stage → ℕ
  half_of g = narrowed g.scale

  abbrev scales : List (List ℕ)
  scales = numbers half_of gs []

  abbrev blocks : List (List ℕ)
  blocks = map (λ g. g.block) gs

  blocks-sized : Each (λ b. length b ≡ w) blocks
  blocks-sized = each_map (λ b. length b ≡ w) (λ g. g.block) gs sized

  bytes : List ℕ
  bytes = stage_bytes gs ++ rest

  apart : stage_bytes gs ++ rest ≡ joined scales ++ (joined blocks ++ rest)
  apart = append_assoc (joined scales) (joined blocks) rest

  scale_at : (i : ℕ) (d : Stage) → i < length gs → little_endian 2 (drop (i * 2) (stage_bytes gs ++ rest)) ≡ narrowed (get_or gs i d).scale
  scale_at i d l = ap (λ (bs : List ℕ). little_endian 2 (drop (i * 2) bs)) apart ∙ number-back half_of gs (joined blocks ++ rest) low i d l

  after-scales : drop (length gs * 2) (stage_bytes gs ++ rest) ≡ joined blocks ++ rest
  after-scales =
      ap₂ (λ (n : ℕ) (bs : List ℕ). drop (n * 2) bs) (sym (length-map gs (λ (g : Stage). le_bytes 2 (narrowed g.scale)))) apart
      ∙ after-blocks 2 scales (joined blocks ++ rest) (numbers-sized half_of gs [])

  block-at : (i : ℕ) (d : Stage) → i < length gs → block_at w i (drop (length gs * 2) (stage_bytes gs ++ rest)) ≡ (get_or gs i d).block
  block-at i d l =
      ap (block_at w i) after-scales ∙ block_back w blocks rest blocks-sized i d.block (rw (length-map gs (λ (g : Stage). g.block)) l)
      ∙ get_or-map (λ (g : Stage). g.block) gs i d

  pub stage_at : (i : ℕ) (d : Stage) → i < length gs → stage_from w (length gs) (stage_bytes gs ++ rest) i ≡ halved (get_or gs i d)
  unfolding stage_from
  stage_at i d l j = record { scale = widened (scale_at i d l j); block = block-at i d l j }
