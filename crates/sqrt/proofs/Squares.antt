-- Squares of whole numbers.
use mathlib.Core.Path.{◌≡◌}
use Prim.Native.Nat.{ℕ, ◌*◌, ◌^◌, ◌≤◌, ◌<◌}
use native.Mathlib.Nat.{lt_of_not-le, not-le_of_lt, one-mul, pow-zero, pow-suc, pow-le-pow_left, pow-lt-pow_left}
use native.Mathlib.Omega.{arith}

pub square : (a : ℕ) → a ^ 2 ≡ a * a
square a = rw (pow-suc a 1, pow-suc a 0, pow-zero a, one-mul a)

pub square_le : {a b : ℕ} → a ≤ b → a ^ 2 ≤ b ^ 2
square_le h = pow-le-pow_left h 2

pub square-lt : {a b : ℕ} → a < b → a ^ 2 < b ^ 2
square-lt h = pow-lt-pow_left h (λ e. absurd (omega arith))

pub root-lt : {a b : ℕ} → a ^ 2 < b ^ 2 → a < b
root-lt h = lt_of_not-le (λ g. not-le_of_lt h (square_le g))
