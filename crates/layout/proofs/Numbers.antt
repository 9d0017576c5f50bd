-- The numbers of the layout fit their types; that there is room for a slot, tested by a division or by a product.
use mathlib.Core.Path.{◌≡◌, refl, sym, ◌∙◌}
use mathlib.Core.Bool.{Bool, true, false, cond}
use Prim.Native.Nat.{ℕ, suc, ◌+◌, ◌*◌, ◌/◌, ◌<◌, ◌≤◌}
use native.Mathlib.Nat.{mul-le-mul, mul-le-mul_left, lt_of_not-le, not-le_of_lt, le-div_iff_mul-le}
use native.Mathlib.Omega.{arith}
use borrow.Author.Tests.{leb-true, leb-false, le-leb, lt-leb}
use lib.Dec.{ltb, leb}
use Rattle.lists.specs.Keep.{bit}
use Rattle.codes.specs.Packing.{bytes_per_vector}
use Rattle.encode.specs.declared.Header.{Header}
use Rattle.encode.specs.Header.{block_size}
use Rattle.unit.proofs.Rotatable.{padded-most}
use Rattle.index.specs.declared.Form.{Form}
use Rattle.index.specs.Form.{stages_at, stage_size, keys_at}

-- a stage has at most 2 ^ 49 bytes
pub few_bytes : (n scale block : ℕ) → n ≤ 0xFFFF_FFFF → scale ≤ 255 → block ≤ 65535 → n * scale + n * block ≤ 0x2_0000_0000_0000
few_bytes n s b hn hs hb = omega (arith, mul-le-mul_left n hs, mul-le-mul_left n hb)

bit-low : (b : Bool) → bit b ≤ 1
bit-low true = omega arith
bit-low false = omega arith

-- the key table begins below 2 ^ 51
pub few-before : (f : Form) (block n : ℕ) → n ≤ 0xFFFF_FFFF → block ≤ 65535 → keys_at f block n ≤ 0x8_0000_0000_0000
few-before f block n hn hb = go f.second
  where
    stage : stage_size block n ≤ 0x2_0000_0000_0000
    stage = few_bytes n 2 block hn (omega arith) hb

    go : (b : Bool) → stages_at f + stage_size block n + cond b (stage_size block n) 0 ≤ 0x8_0000_0000_0000
    go true = omega (arith, bit-low f.width, stage)
    go false = omega (arith, bit-low f.width, stage)

-- a block has at most 4,096 bytes
pub small-block : (h : Header) → h.working_dim ≤ 4096 → h.bits ≤ 6 → block_size h ≤ 4096
unfolding bytes_per_vector
small-block h hw hb = omega (arith, mul-le-mul (padded-most h.working_dim hw) hb)

-- two tests of the same fact
pub leb-same : (a b c d : ℕ) → (a ≤ b → c ≤ d) → (c ≤ d → a ≤ b) → leb a b ≡ leb c d
leb-same a b c d f g = go (leb a b) refl
  where
    go : (t : Bool) → leb a b ≡ t → leb a b ≡ leb c d
    go true e = e ∙ sym (le-leb c d (f (leb-true a b e)))
    go false e = e ∙ sym (lt-leb c d (lt_of_not-le (λ h. not-le_of_lt (leb-false a b e) (g h))))

-- room for a slot's block among n bytes, by division, which cannot overflow
pub leb-block : (n slot bytes : ℕ) → 0 < bytes → ltb slot (n / bytes) ≡ leb (slot * bytes + bytes) n
leb-block n slot bytes pos =
    let iff = le-div_iff_mul-le {k = bytes} {x = suc slot} {y = n} pos in
    leb-same (suc slot) (n / bytes) (slot * bytes + bytes) n (λ h. omega (arith, iff.0 h)) (λ h. iff.1 (omega arith))
