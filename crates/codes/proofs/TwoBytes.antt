-- The window of two bytes in which code i lies whole: byte n / 8 and the next one, n = w * i being the code's first bit.
use mathlib.Core.Path.{◌≡◌, sym, ap, ◌∙◌}
use mathlib.Core.List.{List}
use Prim.Native.Nat.{ℕ, ◌+◌, ◌*◌, ◌/◌, ◌%◌, ◌^◌, ◌≤◌}
use native.Mathlib.Nat.{div-div-eq-div-mul}
use native.Mathlib.Omega.{arith}
use lib.Pow.{pow-add}
use lib.ListN.{get_or}
use Rattle.digits.specs.Digits.{number, Below}
use Rattle.digits.proofs.Places.{cut, pow-mul}
use Rattle.digits.proofs.Number.{window-number}
use Rattle.codes.specs.Packing.{code_at}

-- as `window` reads it
abbrev pub window_at : List ℕ → ℕ → ℕ
window_at block b = get_or block b 0 + 256 * get_or block (b + 1) 0

in_bytes : (n : ℕ) → 2 ^ n ≡ 256 ^ (n / 8) * 2 ^ (n % 8)
in_bytes n =
    ap (λ (z : ℕ). 2 ^ z) {x = n} {y = 8 * (n / 8) + n % 8} (omega arith) ∙ rw (pow-add 2 (8 * (n / 8)) (n % 8), pow-mul 2 8 (n / 8))

-- the window, shifted and cut
pub window-code : (w : ℕ) (block : List ℕ) (i : ℕ) → w ≤ 8 → Below 256 block
    → window_at block (w * i / 8) / 2 ^ (w * i % 8) % 2 ^ w ≡ code_at w block i
unfolding code_at
window-code w block i h bytes =
    let n = w * i in
    let v = number 256 block in
    rw (← window-number 256 (n / 8) block bytes) (cut (n % 8) w 16 (v / 256 ^ (n / 8)) (omega arith))
    ∙ ap (λ (z : ℕ). z % 2 ^ w) (div-div-eq-div-mul v (256 ^ (n / 8)) (2 ^ (n % 8)) ∙ ap (λ (z : ℕ). v / z) (sym (in_bytes n)))
