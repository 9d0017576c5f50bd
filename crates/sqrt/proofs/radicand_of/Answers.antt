use Prim.Native.Nat.{ℕ, ◌%◌, ◌-◌, ◌^◌, ◌≤◌, ◌<◌}
use native.Mathlib.Omega.{arith}
use lib.Count.{count_leading_zeros}
use lib.Dec.{lit≤}
use Rattle.half.proofs.Digits.{Shift, shift_of}
use Rattle.sqrt.proofs.Scale.{normal-is, shifted-normal, subnormal-is}
use Rattle.sqrt.proofs.radicand_of.Goals as goal

pub returns-then-exponent-gt0 : goal.returns-then-exponent-gt0
returns-then-exponent-gt0 c = normal-is _ _ _ c.if-exponent-gt0.true c.paired.ensures

-- the shift of a fraction that is not 0
up : (b : ℕ) → 0 < b % 2 ^ 23 → (8 ≤ count_leading_zeros 32 (b % 2 ^ 23)) × Shift 23 (b % 2 ^ 23) (count_leading_zeros 32 (b % 2 ^ 23) - 8)
up b h = shift_of 23 (b % 2 ^ 23) (lit≤ tt) h (omega arith)

pub overflow_sub-up : goal.overflow_sub-up
overflow_sub-up c = (up c.args.b (omega arith)).0

pub paired-requires-2 : goal.paired-requires-2
paired-requires-2 c = shifted-normal _ _ (up c.args.b (omega arith)).1

pub returns : goal.returns
returns c = subnormal-is _ _ _ _ c.if-exponent-gt0.false (up c.args.b (omega arith)).1 c.paired-2.ensures
