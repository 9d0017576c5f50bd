-- Powers of two: what `exponent` and `padded_dim` mean.
use mathlib.Core.Path.{◌≡◌, refl, sym, ap, ◌∙◌}
use Prim.Native.Nat.{ℕ, suc, ◌-◌, ◌^◌, ◌≤◌, ◌<◌}
use native.Mathlib.Nat.{le_of_suc-le-suc, le_antisymm, le_refl, lt_of_not-le}
use native.Mathlib.Omega.{arith}
use borrow.Author.Tests.{le-leb, lt-leb}
use lib.Ieee.Digits.{size-lt, size-le}
use lib.Pow.{pow_pos, pow-lt, pow_mono}
use Rattle.std.specs.Prelude.{Option, Some, None}
use Rattle.std.specs.Option.{MatchOption, unwrap_or}
use Rattle.std.specs.Int.{IsNextPowerOfTwo}
use Rattle.padding.specs.Padded.{exponent, padded_dim, LeastPower}

-- powers of two order as their exponents do
pub pow-reflects-lt : (j k : ℕ) → 2 ^ j < 2 ^ k → j < k
pow-reflects-lt j k h = lt_of_not-le (λ (l : k ≤ j). let m = pow_mono l in omega arith)

pub pow-reflects-le : (j k : ℕ) → 2 ^ j ≤ 2 ^ k → j ≤ k
pow-reflects-le j k h = le_of_suc-le-suc (lt_of_not-le (λ (l : k < j). let m = pow-lt l in omega arith))

pub exponent-reaches : (n : ℕ) → n ≤ 2 ^ exponent n
unfolding exponent
exponent-reaches n = omega (arith, size-lt (n - 1))

pub exponent-least : (n k : ℕ) → n ≤ 2 ^ k → exponent n ≤ k
unfolding exponent
exponent-least n k h = size-le (n - 1) k (omega (arith, pow_pos k))

pub exponent-pow : (k : ℕ) → exponent (2 ^ k) ≡ k
exponent-pow k = le_antisymm (exponent-least (2 ^ k) k (le_refl (2 ^ k))) (pow-reflects-le k (exponent (2 ^ k)) (exponent-reaches (2 ^ k)))

padded-is : (n : ℕ) → n ≤ 2 ^ 63 → padded_dim n ≡ 2 ^ exponent n
unfolding padded_dim
padded-is n h = rw (le-leb n (2 ^ 63) h)

-- up to 2 ^ 63 it is the least power of two at or above n
pub padded-least : (n : ℕ) → n ≤ 2 ^ 63 → LeastPower n (padded_dim n)
padded-least n h =
    rw (padded-is n h) (record { power = (exponent n, refl); reaches = exponent-reaches n; least = λ k l. pow_mono (exponent-least n k l) })

-- above there is none in a usize
pub padded-none : (n : ℕ) → 2 ^ 63 < n → padded_dim n ≡ 0
unfolding padded_dim
padded-none n h = rw (lt-leb n (2 ^ 63) h)

-- a power of two is its own padded dimension
pub padded-pow : (n k : ℕ) → n ≡ 2 ^ k → n ≤ 2 ^ 63 → padded_dim n ≡ n
padded-pow n k e h = padded-is n h ∙ ap (λ (z : ℕ). 2 ^ z) (ap exponent e ∙ exponent-pow k) ∙ sym e

-- and nothing else is
pub padded-fixed : (n : ℕ) → n ≤ 2 ^ 63 → padded_dim n ≡ n → 2 ^ exponent n ≡ n
padded-fixed n h e = sym (padded-is n h) ∙ e

-- what `checked_next_power_of_two` gives for n, and 0 where that is none
pub padded_next : (n : ℕ) (o : Option ℕ) → MatchOption o (2 ^ 63 < n) (IsNextPowerOfTwo n) → unwrap_or o 0 < 2 ^ 64 → unwrap_or o 0 ≡ padded_dim n
padded_next n None e h = sym (padded-none n e)
padded_next n (Some p) e h =
    let k = e.0.0 in
    let small : k < 64 = pow-reflects-lt k 64 (rw e.0.1 at h) in
    let fits : n ≤ 2 ^ 63 = omega (arith, e.0.1, e.1, pow_mono {i = k} {j = 63} (omega arith)) in
    let least : exponent n ≤ k = exponent-least n k (omega (arith, e.0.1)) in
    let most : k ≤ exponent n = le_of_suc-le-suc (pow-reflects-lt k (suc (exponent n)) (omega (arith, e.0.1, e.2, exponent-reaches n, pow_pos (exponent n)))) in
    e.0.1 ∙ ap (λ (z : ℕ). 2 ^ z) (le_antisymm most least) ∙ sym (padded-is n fits)
