-- Fewer than eight codes as one number, below what stands above them in their block.
use mathlib.Core.Path.{◌≡◌, ap₂, ◌∙◌}
use mathlib.Core.List.{List}
use Prim.Native.Nat.{ℕ, ◌+◌, ◌-◌, ◌*◌, ◌/◌, ◌^◌, ◌<◌, ◌≤◌}
use native.Mathlib.Nat.{mul-le-mul, div-lt_iff_lt-mul, lt_of_lt_of_le}
use native.Mathlib.Omega.{arith}
use lib.Arith.{digits_lt}
use lib.Pow.{pow_mono, pow_pos}
use lib.ListN.{length}
use Rattle.digits.specs.Digits.{number, digits, Below}
use Rattle.digits.proofs.Places.{pow-mul, pow-split}
use Rattle.digits.proofs.Number.{number_lt}
use Rattle.codes.specs.Packing.{bytes_per_vector, packed, spare}
use Rattle.codes.proofs.Tests.{Packable}

-- the k lowest bits of a number of n bits replaced
below-whole : (k n v d : ℕ) → k ≤ n → d < 2 ^ k → v < 2 ^ n → d + 2 ^ k * (v / 2 ^ k) < 2 ^ n
below-whole k n v d h hd hv =
    let e : 2 ^ n ≡ 2 ^ k * 2 ^ (n - k) = pow-split 2 k n h in
    let hq : v / 2 ^ k < 2 ^ (n - k) = (div-lt_iff_lt-mul (pow_pos k)).1 (omega arith) in
    omega (arith, digits_lt hq hd)

module _ (w : ℕ) (codes block : List ℕ) (ok : Packable w codes (length block)) (few : length codes < 8) where
  pub rest-bits : w * length codes ≤ 56
  rest-bits = let l : length codes ≤ 7 = omega arith in mul-le-mul ok.width.most l

  pub rest-bytes : length block ≤ 8
  unfolding bytes_per_vector
  rest-bytes = omega (arith, ok.size, rest-bits)

  abbrev whole : ℕ
  whole = number (2 ^ w) codes + 2 ^ (w * length codes) * (number 256 block / 2 ^ (w * length codes))

  pub rest-fits : Below 256 block → whole < 2 ^ 64
  rest-fits bytes =
      let low : number (2 ^ w) codes < 2 ^ (w * length codes) = rw (pow-mul 2 w (length codes)) (number_lt (2 ^ w) codes ok.fit) in
      let all : number 256 block < 2 ^ 64 =
      lt_of_lt_of_le (number_lt 256 block bytes) (rw (← pow-mul 2 8 (length block)) (pow_mono {i = 8 * length block} {j = 64} (omega (arith, rest-bytes))))
      in
      below-whole (w * length codes) 64 (number 256 block) (number (2 ^ w) codes) (omega (arith, rest-bits)) low all

  pub rest-written : (last : List ℕ) (value : ℕ) → value ≡ whole → last ≡ digits 256 (length block) value → last ≡ packed w codes (spare w (length codes) block)
  unfolding packed spare
  rest-written last value e d = d ∙ ap₂ (λ (n x : ℕ). digits 256 n x) ok.size e
