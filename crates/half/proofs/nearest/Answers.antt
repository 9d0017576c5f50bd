use mathlib.Core.Path.{◌≡◌, sym, ap, ◌∙◌}
use Prim.Native.Nat.{ℕ, suc, ◌+◌, ◌-◌, ◌*◌, ◌/◌, ◌%◌, ◌^◌, ◌<◌, ◌≤◌}
use native.Mathlib.Nat.{div-add-mod', mod-eq_of_lt, one-mul, pow-suc, mul-le-mul_left}
use native.Mathlib.Omega.{arith}
use lib.Bits.{and_mask}
use lib.Pow.{pow_mono, pow-lt}
use Rattle.half.proofs.Near.{closest-tie}
use Rattle.half.proofs.nearest.Goals as goal

-- `half::nearest` meets its contract: with p for 2 ^ s, `rest` is m % p and `half` is p / 2.
record Cut (m s : ℕ) : Type 0 where
  whole : m / 2 ^ s * 2 ^ s % 0x1_0000_0000 + m % 2 ^ s ≡ m
  rest : m - m / 2 ^ s * 2 ^ s % 0x1_0000_0000 ≡ m % 2 ^ s
  half : 1 * 2 ^ (s - 1) % 0x1_0000_0000 * 2 ≡ 2 ^ s
  quotient : m / 2 ^ s * 2 ≤ m

pred : (s : ℕ) → 0 < s → suc (s - 1) ≡ s
pred s h = omega arith

cut : (m s : ℕ) → m < 2 ^ 32 → 0 < s → s < 32 → Cut m s
cut m s M S S' =
    let p = 2 ^ s in
    let w : m / p * p + m % p ≡ m = div-add-mod' m p in
    let e : m / p * p % 0x1_0000_0000 ≡ m / p * p = mod-eq_of_lt (omega arith) in
    let d : 2 ^ (s - 1) * 2 ≡ p = sym (pow-suc 2 (s - 1)) ∙ ap (λ (z : ℕ). 2 ^ z) (pred s S) in
    let l : 2 ^ (s - 1) < 0x1_0000_0000 = pow-lt {i = s - 1} {j = 32} (omega arith) in
    let f : 1 * 2 ^ (s - 1) % 0x1_0000_0000 ≡ 2 ^ (s - 1) = ap (λ (z : ℕ). z % 0x1_0000_0000) (one-mul (2 ^ (s - 1))) ∙ mod-eq_of_lt l in
    let g : m / p * 2 ≤ m / p * p = mul-le-mul_left (m / p) (pow_mono {i = 1} {j = s} S) in
    record { whole = omega arith; rest = omega arith; half = omega arith; quotient = omega arith }

pub returns : goal.returns
returns c =
    let k = cut c.args.m c.args.s c.ranges.m.fits c.requires.0 c.requires.1 in
    omega (arith, closest-tie c.args.m (2 ^ c.args.s) (omega arith), and_mask (c.args.m / 2 ^ c.args.s) 1)
