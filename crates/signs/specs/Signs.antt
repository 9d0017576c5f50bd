-- The sign stream: the generator xorshift64* of S. Vigna, "An experimental exploration of Marsaglia's xorshift generators, scrambled" (ACM TOMS 42(4), 2016), with document 01's
-- rules for the seed and for the sign (rhdh.rs). A state and an output are numbers below 2 ^ 64.
use Rattle.std.specs.Prelude.{ℕ, zero, suc, ◌*◌, ◌/◌, ◌%◌, ◌^◌, true, false, cond, List, pos, ◌==◌, bit_xor, nat_lt, Float}
use Rattle.std.specs.Float.{fin}
use Rattle.lists.specs.Lists.{tab}

-- 01: "The state is the 64-bit seed; seed 0 becomes 0x9E3779B97F4A7C15."
unfoldable pub start : ℕ → ℕ
start seed = cond (seed == 0) 0x9E37_79B9_7F4A_7C15 seed

-- s with itself shifted k to the right xored in
unfoldable pub xor_right : ℕ → ℕ → ℕ
xor_right k s = bit_xor s (s / 2 ^ k)

-- s with itself shifted k to the left xored in; the bits from 2 ^ 64 up are lost
unfoldable pub xor_left : ℕ → ℕ → ℕ
xor_left k s = bit_xor s (s * 2 ^ k % 2 ^ 64)

-- The paper's step, with its shifts 12, 25 and 27. 01: "A step xors in the state shifted right 12, left 25 (high bits lost), right 27."
unfoldable pub next_state : ℕ → ℕ
next_state s = xor_right 27 (xor_left 25 (xor_right 12 s))

-- The paper's output, with its multiplier 2685821657736338717. 01: "The output is the state times 0x2545F4914F6CDD1D, the product taken modulo 2^64".
unfoldable pub output : ℕ → ℕ
output s = s * 0x2545_F491_4F6C_DD1D % 2 ^ 64

-- 01: "the sign is -1 where its top bit is 0, else 1"
unfoldable pub sign : ℕ → Float
sign o = cond (nat_lt o (2 ^ 63)) (fin true 1 (pos 0)) (fin false 1 (pos 0))

-- the state after n steps
abbrev pub state : ℕ → ℕ → ℕ
state seed zero = start seed
state seed (suc n) = next_state (state seed n)

-- sign i of the stream, counted from 0: that of the output after i + 1 steps
unfoldable pub sign_at : ℕ → ℕ → Float
sign_at seed i = sign (output (state seed (suc i)))

-- the first n signs
unfoldable pub signs : ℕ → ℕ → List Float
signs seed n = tab (sign_at seed) n
