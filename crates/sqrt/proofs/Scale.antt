-- A pattern's radicand as p * 4 ^ k, as the code finds it.
use mathlib.Core.Path.{◌≡◌, refl, sym, ap, ◌∙◌, subst}
use Prim.Native.Nat.{ℕ, zero, suc, ◌+◌, ◌-◌, ◌*◌, ◌/◌, ◌%◌, ◌^◌, ◌≤◌, ◌<◌}
use native.Mathlib.Nat.{le_trans, lt_of_lt_of_le, mod-eq_of_lt, mul-le-mul_left, mul-le-mul_right, pow-suc}
use native.Mathlib.Omega.{arith}
use lib.Pow.{pow-add, pow_mono, shl_lt, shl_exact}
use Rattle.std.proofs.lemmas.Nat.{mul-pow}
use Rattle.half.specs.Binary.{magnitude}
use Rattle.half.proofs.Digits.{weight, Shift}
use Rattle.sqrt.specs.Root.{radicand}
use Rattle.sqrt.specs.Work.{Normal, Scaled}
use Rattle.sqrt.proofs.Squares.{square}

pub four-to : (k : ℕ) → 4 ^ k ≡ (2 ^ k) ^ 2
four-to zero = refl
four-to (suc k) = pow-suc 4 k ∙ ap (λ (z : ℕ). z * 4) (four-to k) ∙ sym (mul-pow (2 ^ k) 2 2) ∙ ap (λ (z : ℕ). z ^ 2) (sym (pow-suc 2 k))

weights : (m i j h : ℕ) → i + j ≡ h → m * 2 ^ i * 2 ^ j ≡ m * 2 ^ h
weights m i j h e = weight m i j ∙ ap (λ (z : ℕ). m * 2 ^ z) e

-- ---- m * 2 ^ (23 + e): the 2s in pairs
pub paired_is : (m e : ℕ) → Normal m e → Scaled (m * 2 ^ (23 + e)) (m * 2 ^ (23 + e % 2) % 2 ^ 64) (e / 2)
paired_is m e h =
    let o = 23 + e % 2 in
    let fits : m * 2 ^ o % 2 ^ 64 ≡ m * 2 ^ o = shl_exact 24 o 64 h.below (omega arith) in
    let pairs : 2 ^ (e / 2 + e / 2) ≡ 4 ^ (e / 2) = pow-add 2 (e / 2) (e / 2) ∙ sym (square (2 ^ (e / 2))) ∙ sym (four-to (e / 2)) in
    subst (λ (z : ℕ). Scaled (m * 2 ^ (23 + e)) z (e / 2)) (sym fits)
    record {
      is = sym (weights m o (e / 2 + e / 2) (23 + e) (omega arith)) ∙ ap (λ (z : ℕ). m * 2 ^ o * z) pairs;
      above = le_trans (mul-le-mul_left (2 ^ 23) (pow_mono {i = 23} {j = o} (omega arith))) (mul-le-mul_right (2 ^ o) h.above);
      below = lt_of_lt_of_le (shl_lt 24 o h.below) (pow_mono {i = 24 + o} {j = 48} (omega arith));
      small = omega (arith, h.small);
    }

-- ---- of a normal value
normal-at : (x f : ℕ) → 0 < x → magnitude 23 x f * 2 ^ 149 ≡ (2 ^ 23 + f) * 2 ^ (23 + (x + 125))
unfolding magnitude
normal-at zero f h = absurd (omega arith)
normal-at (suc x) f h = weights (2 ^ 23 + f) x 149 (23 + (suc x + 125)) (omega arith)

pub normal-is : (b p k : ℕ) → 0 < b / 2 ^ 23 → Scaled ((2 ^ 23 + b % 2 ^ 23) * 2 ^ (23 + (b / 2 ^ 23 + 125))) p k → Scaled (radicand b) p k
normal-is b p k h s = subst (λ (z : ℕ). Scaled z p k) (sym (normal-at (b / 2 ^ 23) (b % 2 ^ 23) h)) s

-- ---- of a subnormal value, shifted up by u
pub shifted-normal : (f u : ℕ) → Shift 23 f u → Normal (f * 2 ^ u % 2 ^ 32) (126 - u)
shifted-normal f u l =
    let e : f * 2 ^ u % 2 ^ 32 ≡ f * 2 ^ u = mod-eq_of_lt (omega (arith, l.below)) in
    record { above = omega (arith, l.above); below = omega (arith, l.below); small = omega arith }

subnormal-at : (x f u : ℕ) → x ≤ 0 → u ≤ 23 → magnitude 23 x f * 2 ^ 149 ≡ f * 2 ^ u * 2 ^ (23 + (126 - u))
unfolding magnitude
subnormal-at zero f u e h = sym (weights f u (23 + (126 - u)) 149 (omega arith))
subnormal-at (suc x) f u e h = absurd (omega arith)

pub subnormal-is : (b u p k : ℕ) → b / 2 ^ 23 ≤ 0 → Shift 23 (b % 2 ^ 23) u → Scaled (b % 2 ^ 23 * 2 ^ u % 2 ^ 32 * 2 ^ (23 + (126 - u))) p k
    → Scaled (radicand b) p k
subnormal-is b u p k e l s =
    let fits : b % 2 ^ 23 * 2 ^ u % 2 ^ 32 ≡ b % 2 ^ 23 * 2 ^ u = mod-eq_of_lt (omega (arith, l.below)) in
    subst (λ (z : ℕ). Scaled z p k) (ap (λ (z : ℕ). z * 2 ^ (23 + (126 - u))) fits ∙ sym (subnormal-at (b / 2 ^ 23) (b % 2 ^ 23) u e l.most)) s
