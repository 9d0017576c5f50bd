-- `root_bits` by cases on the pattern.
use mathlib.Core.Path.{◌≡◌}
use Prim.Native.Nat.{ℕ, ◌%◌, ◌^◌, ◌<◌}
use native.Mathlib.Omega.{arith}
use Rattle.std.proofs.lemmas.Grind.{common_steps}
use Rattle.half.specs.Binary.{infinity}
use Rattle.sqrt.specs.Root.{radicand, nearest_root, root_bits}

pub at-nan : (b : ℕ) → infinity 23 8 < b % 2 ^ 31 → root_bits b ≡ 0x7FC0_0000
unfolding root_bits
at-nan b h = grind (arith, common_steps)

pub at_zero : (b : ℕ) → b % 2 ^ 31 ≡ 0 → root_bits b ≡ b
unfolding root_bits
at_zero b e = grind (arith, common_steps)

-- past the infinity are the NaNs and everything below 0
pub at-past : (b : ℕ) → b < 2 ^ 32 → (b % 2 ^ 31 ≡ 0 → ⊥) → infinity 23 8 < b → root_bits b ≡ 0x7FC0_0000
unfolding root_bits
at-past b l n h = grind (arith, common_steps)

pub at-infinity : (b : ℕ) → b ≡ infinity 23 8 → root_bits b ≡ b
unfolding root_bits
at-infinity b e = grind (arith, common_steps)

pub at-positive : (b : ℕ) → 0 < b → b < infinity 23 8 → root_bits b ≡ nearest_root (radicand b)
unfolding root_bits
at-positive b l h = grind (arith, common_steps)
