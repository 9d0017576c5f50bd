-- One stage, and the scale of a plain index, from what the working functions ensure.
use mathlib.Core.Path.{◌≡◌, refl, ap, ap₂, ◌∙◌}
use mathlib.Core.Bool.{Bool, true}
use mathlib.Core.List.{List, [], ◌∷◌, append-nil}
use Prim.Native.Nat.{ℕ, zero, suc, ◌^◌, ◌<◌, ◌≤◌}
use native.Mathlib.Nat.{lt_of_le_of_lt}
use native.Mathlib.Omega.{arith}
use borrow.Author.Tests.{le-leb}
use lib.ListN.{length, length-map, take, replicate, length-replicate}
use lib.Seq.{drop-length, length-take-le}
use lib.Pow.{pow_pos, pow_mono}
use lib.Ieee.{Float, binary32, of_bits, to_bits, of_int, round}
use Rattle.digits.specs.Digits.{Below}
use Rattle.pattern.specs.Binary32.{◌⊘◌, of_nat, sum_squares}
use Rattle.sqrt.specs.Root.{SquareRoot}
use Rattle.lists.specs.Lists.{over}
use Rattle.lloyd.specs.Quantizer as Quantizer
use Rattle.lloyd.specs.Quantizer.{quantized, decoded}
use Rattle.lloyd.proofs.Quantized.{quantized-le}
use Rattle.lloyd.proofs.Decoded.{length-decoded}
use Rattle.codes.specs.Packing.{packed}
use Rattle.codes.specs.Writing.{repacked, spare_after}
use Rattle.codes.specs.Stage.{stage}
use Rattle.codes.proofs.Tests.{written-yes}
use Rattle.unit.proofs.Vectors.{norm-is}
use Rattle.encode.specs.Coding.{Table, table, coded, codes_of, dequantized, plain_scale, plain, packed_stage}
use Rattle.encode.proofs.Fit.{Fits}

-- ---- the first places of a working array

pub first-places : {A : Type 0} (m n : ℕ) (x : A) → n ≤ m → length (take n (replicate m x)) ≡ n
first-places m n x h = length-take-le n (replicate m x) (rw (length-replicate) h)

-- ---- one stage

pub length-coded : (b xs : List Float) → length (coded b xs) ≡ length xs
unfolding coded
length-coded b xs = length-map xs (quantized b)

-- a table of fewer boundaries than the width has codes gives codes of this width
coded-below : (w : ℕ) (b : List Float) → length b < 2 ^ w → (xs : List Float) → Below (2 ^ w) (coded b xs)
unfolding coded
coded-below w b h [] i = pow_pos w
coded-below w b h (x ∷ xs) zero = lt_of_le_of_lt (quantized-le b x) h
coded-below w b h (x ∷ xs) (suc i) = coded-below w b h xs i

module _ (w : ℕ) (b xs : List Float) (bytes : ℕ) (f : Fits w (length b) (length xs) bytes) where
  room : (codes : List ℕ) → length codes ≡ length xs → Quantizer.quantizable (length b) (length xs) (length codes) ≡ true
  unfolding Quantizer.quantizable
  room codes l =
      let most = pow_mono {i = w} {j = 8} f.width.most in
      rw (le-leb (length b) 255 (omega (arith, f.table))) (le-leb (length xs) (length codes) (omega arith))

  pub codes-are : (codes next : List ℕ) → length codes ≡ length xs → next ≡ Quantizer.coded_into b xs codes → next ≡ coded b xs
  unfolding Quantizer.coded_into over coded
  codes-are codes next l e = e ∙ rw (room codes l, length-map xs, ← l, drop-length codes) (append-nil _)

  pub squares-are : (c : List Float) (codes : List ℕ) (r : Float) → length codes ≡ length xs → r ≡ Quantizer.coded_squares b c xs codes → r ≡ sum_squares (dequantized (table b c) xs)
  unfolding Quantizer.coded_squares coded
  squares-are c codes r l e = e ∙ rw (room codes l)

  pub block-is : (fresh : Bool) (block codes next : List ℕ) → length block ≡ bytes → codes ≡ coded b xs → next ≡ repacked w codes (spare_after fresh w (length codes) block) block
      → next ≡ packed w (coded b xs) (spare_after fresh w (length xs) block)
  block-is fresh block codes next l c e =
      let n = ap length c ∙ length-coded b xs in
      e
      ∙ rw (n, c)
      (written-yes (spare_after fresh w (length xs) block) block (record { width = f.width; size = rw (length-coded b xs) (l ∙ f.size); fit = coded-below w b f.table xs }))

pub values-are : (b c xs : List Float) (codes : List ℕ) (next : List Float) → codes ≡ coded b xs → next ≡ decoded c codes → next ≡ dequantized (table b c) xs
values-are b c xs codes next e d = d ∙ ap (decoded c) e

pub length-dequantized : (t : Table) (xs : List Float) → length (dequantized t xs) ≡ length xs
length-dequantized t xs = length-decoded t.centroids (codes_of t xs) ∙ length-coded t.boundaries xs

-- ---- the scale of a plain index

pub one-is : of_bits binary32 0x3F80_0000 ≡ of_nat 1
unfolding of_bits of_int round
one-is = refl

pub plain-is : (b c xs : List Float) (w above : ℕ) (s n : Float) (r : ℕ) (next : List ℕ) → next ≡ packed w (coded b xs) above → s ≡ sum_squares (dequantized (table b c) xs)
    → SquareRoot s n → r ≡ to_bits binary32 (of_bits binary32 0x3F80_0000 ⊘ n) → stage r next ≡ packed_stage w above (plain (table b c) xs)
unfolding plain plain_scale
plain-is b c xs w above s n r next packs e root p = ap₂ stage (p ∙ rw (norm-is (dequantized (table b c) xs) s n e root, one-is)) packs
