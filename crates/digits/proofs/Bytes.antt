-- The bytes of a word, the lowest first, are its digits to the base 256.
use Rattle.std.proofs.Common.{◌≡◌, refl, ap, ◌∙◌, ℕ, zero, suc, ◌/◌, ◌%◌, ◌^◌, ◌≤◌, arith, take}
use Rattle.std.specs.Int.{w64, byte_at, bytes_low_first, to_le_bytes}
use Rattle.digits.specs.Digits.{digits}
use Rattle.digits.proofs.Places.{div-pow-zero, div-last}
use Rattle.digits.proofs.Digits.{take-digits}

byte-at : (i n : ℕ) → byte_at i n ≡ n / 256 ^ i % 256
byte-at zero n = rw (div-pow-zero 256 n)
byte-at (suc i) n = refl

low_bytes : (i k n : ℕ) → bytes_low_first i k n ≡ digits 256 k (n / 256 ^ i)
low_bytes i zero n = refl
low_bytes i (suc k) n = rw (byte-at i n, low_bytes (suc i) k n, div-last 256 n i)

-- the first bytes of a word
pub le-bytes : (size n : ℕ) → size ≤ 8 → take size (to_le_bytes w64 n) ≡ digits 256 size n
le-bytes size n few =
    let all : to_le_bytes w64 n ≡ digits 256 8 n = low_bytes 0 8 n ∙ ap (digits 256 8) (div-pow-zero 256 n) in
    ap (take size) all ∙ take-digits 256 size 8 n ∙ ap (λ (k : ℕ). digits 256 k n) (omega arith)
