use mathlib.Core.Path.{◌≡◌, sym, ◌∙◌}
use Prim.Native.Nat.{ℕ, ◌+◌, ◌-◌, ◌*◌, ◌/◌, ◌%◌, ◌^◌, ◌<◌, ◌≤◌}
use native.Mathlib.Omega.{arith}
use lib.Dec.{lit<}
use lib.Count.{count_leading_zeros}
use lib.Bits.{bit_and, and_mask}
use Rattle.half.proofs.Digits.{single, Shift, zeros-plus-one}
use Rattle.half.proofs.Widen.{normal, nothing, subnormal, finite, special, meets}
use Rattle.half.proofs.f16_bits_to_f32.Goals as goal

-- `half::f16_bits_to_f32` meets its contract: a law of `Widen.antt` for each return.
-- ---- the two fields below the sign
abbrev exp : ℕ → ℕ
exp h = bit_and (h / 1024) 31

abbrev frac : ℕ → ℕ
frac h = bit_and h 1023

is-exp : (h : ℕ) → h / 1024 % 32 ≡ exp h
is-exp h = sym (and_mask (h / 1024) 5)

is-frac : (h : ℕ) → h % 1024 ≡ frac h
is-frac h = sym (and_mask h 10)

-- ---- the shift of a fraction that is not 0
abbrev shift : ℕ → ℕ
shift h = count_leading_zeros 32 (frac h) - 22 + 1

shift-bound : (h : ℕ) → (frac h ≡ 0 → ⊥) → (22 ≤ count_leading_zeros 32 (frac h)) × Shift 10 (frac h) (shift h)
shift-bound h n = zeros-plus-one 10 (frac h) (lit< tt) (omega (arith, n)) (omega (arith, is-frac h))

pub returns-then-exp-eq31 : goal.returns-then-exp-eq31
returns-then-exp-eq31 c =
    let h = c.args.h in
    meets h _
    (single (h / 32768) 255 (frac h) (omega arith) (lit< tt) (omega (arith, is-frac h))
    ∙ sym (special h (exp h) (frac h) (is-exp h) (is-frac h) c.if-exp-eq31.true))

pub returns-then-exp-gt0 : goal.returns-then-exp-gt0
returns-then-exp-gt0 c =
    let h = c.args.h in
    let l : exp h < 31 = omega (arith, is-exp h, c.if-exp-eq31.false) in
    let m : frac h < 1024 = omega (arith, is-frac h) in
    meets h _
    (single (h / 32768) (exp h + 112) (frac h) (omega arith) (omega arith) m
    ∙ sym (finite h (exp h) (frac h) (is-exp h) (is-frac h) ((exp h + 112) * 0x80_0000 + frac h * 0x2000) l
    (normal (exp h) (frac h) c.if-exp-gt0.true l m)))

pub returns-then-frac-eq0 : goal.returns-then-frac-eq0
returns-then-frac-eq0 c =
    let h = c.args.h in
    let e : h / 1024 % 32 ≡ 0 = omega (arith, is-exp h) in
    let z : h % 1024 ≡ 0 = omega (arith, is-frac h) in
    meets h _ (omega (arith, finite h 0 0 e z 0 (lit< tt) nothing))

pub overflow_sub-zeros : goal.overflow_sub-zeros
overflow_sub-zeros c = (shift-bound c.args.h c.if-frac-eq0.false).0

pub returns : goal.returns
returns c =
    let h = c.args.h in
    let f = frac h in
    let s = shift h in
    let e : h / 1024 % 32 ≡ 0 = omega (arith, is-exp h) in
    let p : 0 < f = omega (arith, c.if-frac-eq0.false) in
    let m : f < 1024 = omega (arith, is-frac h) in
    let g : Shift 10 f s = (shift-bound h c.if-frac-eq0.false).1 in
    meets h _
    (rw (and_mask (f * 2 ^ s % 0x1_0000_0000) 10)
    (single (h / 32768) (113 - s) (f * 2 ^ s % 0x1_0000_0000 % 1024) (omega arith) (omega arith) (omega arith)
    ∙ sym (finite h 0 f e (is-frac h) ((113 - s) * 0x80_0000 + f * 2 ^ s % 0x1_0000_0000 % 1024 * 0x2000) (lit< tt) (subnormal f p m))))
