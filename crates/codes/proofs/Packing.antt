-- Laws of the layout, over the width: a block is its codes and its spare bits, and packing keeps both.
use mathlib.Core.Path.{◌≡◌, sym, ap, ◌∙◌}
use mathlib.Core.List.{List}
use Prim.Native.Nat.{ℕ, ◌+◌, ◌*◌, ◌/◌, ◌%◌, ◌^◌, ◌<◌, ◌≤◌}
use native.Mathlib.Nat.{mul_comm, zero-mod, mod-eq_of_lt, mod-lt, div-lt_iff_lt-mul, mod-add-div, mul-le-mul_left}
use native.Mathlib.Omega.{arith}
use lib.Dec.{lit<}
use lib.Pow.{pow_pos}
use lib.ListN.{length, get_or, take, drop}
use Rattle.digits.specs.Digits.{number, Below}
use Rattle.digits.proofs.Places.{div_parts, mod-mul-parts, div-pow-add, pow-mul, pow-split, cut, digit-bit}
use Rattle.digits.proofs.Below.{below-drop}
use Rattle.digits.proofs.Number.{number_lt, number-take, number-drop, digit-number}
use Rattle.digits.proofs.Digits.{length_digits, get_or-digits, below-digits, number_digits, digits-parts, digits_number}
use Rattle.codes.specs.Packing.{bytes_per_vector, code_at, unpacked, spare, spare_width, packed, block_bit}
use Rattle.digits.specs.Digits.{bit_of}

-- the bytes hold the codes, and fewer than 8 bits more
pub codes-in-bytes : (w p : ℕ) → (w * p ≤ 8 * bytes_per_vector w p) × (8 * bytes_per_vector w p < w * p + 8)
unfolding bytes_per_vector
codes-in-bytes w p = omega arith

-- as many numbers as a block can be
pub block-count : (w p : ℕ) → 256 ^ bytes_per_vector w p ≡ 2 ^ (w * p) * 2 ^ spare_width w p
unfolding spare_width
block-count w p = sym (pow-mul 2 8 (bytes_per_vector w p)) ∙ pow-split 2 (w * p) (8 * bytes_per_vector w p) (codes-in-bytes w p).0

pub length-packed : (w : ℕ) (codes : List ℕ) (s : ℕ) → length (packed w codes s) ≡ bytes_per_vector w (length codes)
unfolding packed
length-packed w codes s = length_digits 256 _ _

pub below-packed : (w : ℕ) (codes : List ℕ) (s : ℕ) → Below 256 (packed w codes s)
unfolding packed
below-packed w codes s =
    below-digits 256 (lit< tt) (bytes_per_vector w (length codes)) (number (2 ^ w) codes + 2 ^ (w * length codes) * s)

pub length-unpacked : (w p : ℕ) (block : List ℕ) → length (unpacked w p block) ≡ p
unfolding unpacked
length-unpacked w p block = length_digits (2 ^ w) p _

pub below-unpacked : (w p : ℕ) (block : List ℕ) → Below (2 ^ w) (unpacked w p block)
unfolding unpacked
below-unpacked w p block = below-digits (2 ^ w) (pow_pos w) p _

pub get_or-unpacked : (w p : ℕ) (block : List ℕ) (i : ℕ) → i < p → get_or (unpacked w p block) i 0 ≡ code_at w block i
unfolding unpacked code_at
get_or-unpacked w p block i h = rw (pow-mul 2 w i) (get_or-digits (2 ^ w) p (number 256 block) i h)

pub code_at-lt : (w : ℕ) (block : List ℕ) (i : ℕ) → code_at w block i < 2 ^ w
unfolding code_at
code_at-lt w block i = mod-lt _ (pow_pos w)

-- ---- packed, and unpacked again

module _ (w : ℕ) (codes : List ℕ) (s : ℕ) (fit : Below (2 ^ w) codes) where
  codes-lt : number (2 ^ w) codes < 2 ^ (w * length codes)
  codes-lt = rw (pow-mul 2 w (length codes)) (number_lt (2 ^ w) codes fit)

  number-packed : number 256 (packed w codes s) ≡ number (2 ^ w) codes + 2 ^ (w * length codes) * (s % 2 ^ spare_width w (length codes))
  unfolding packed
  number-packed =
      number_digits 256 (lit< tt) (bytes_per_vector w (length codes)) (number (2 ^ w) codes + 2 ^ (w * length codes) * s)
      ∙ rw (block-count w (length codes)) (mod-mul-parts (2 ^ (w * length codes)) (2 ^ spare_width w (length codes)) (number (2 ^ w) codes) s (pow_pos _) codes-lt)

  pub unpacked-packed : unpacked w (length codes) (packed w codes s) ≡ codes
  unfolding unpacked
  unpacked-packed =
      rw (number-packed, pow-mul 2 w (length codes)) (digits-parts (2 ^ w) codes (s % 2 ^ spare_width w (length codes)) fit)

  pub spare-packed : spare w (length codes) (packed w codes s) ≡ s % 2 ^ spare_width w (length codes)
  unfolding spare
  spare-packed = rw number-packed (div_parts (2 ^ (w * length codes)) _ _ codes-lt)

-- "Spare bits are 0 after an append"
pub spare-new : (w : ℕ) (codes : List ℕ) → Below (2 ^ w) codes → spare w (length codes) (packed w codes 0) ≡ 0
spare-new w codes fit = spare-packed w codes 0 fit ∙ zero-mod _

-- ---- a block taken apart, and packed again

module _ (w p : ℕ) (block : List ℕ) (bytes : Below 256 block) (size : length block ≡ bytes_per_vector w p) where
  pub spare-lt : spare w p block < 2 ^ spare_width w p
  unfolding spare
  spare-lt =
      (div-lt_iff_lt-mul (pow_pos (w * p))).1
      (rw (mul_comm (2 ^ spare_width w p) (2 ^ (w * p)), ← block-count w p, ← size) (number_lt 256 block bytes))

  pub packed-unpacked : packed w (unpacked w p block) (spare w p block) ≡ block
  unfolding packed unpacked spare
  packed-unpacked =
      let v = number 256 block in
      rw (length-unpacked w p block, ← size, number_digits (2 ^ w) (pow_pos w) p v, ← pow-mul 2 w p, mod-add-div v (2 ^ (w * p)))
      (digits_number 256 block bytes)

-- "an overwrite keeps them"
pub spare-over : (w : ℕ) (codes block : List ℕ) → Below (2 ^ w) codes → Below 256 block → length block ≡ bytes_per_vector w (length codes)
    → spare w (length codes) (packed w codes (spare w (length codes) block)) ≡ spare w (length codes) block
spare-over w codes block fit bytes size = spare-packed w codes _ fit ∙ mod-eq_of_lt (spare-lt w (length codes) block bytes size)

-- ---- by single bits: bit j of code i is bit i * w + j of the block

pub code-bit : (w : ℕ) (block : List ℕ) (i j : ℕ) → Below 256 block → j < w → bit_of (code_at w block i) j ≡ block_bit block (i * w + j)
unfolding code_at
code-bit w block i j bytes h =
    let n = i * w + j in
    digit-bit w (number 256 block) i j h
    ∙ ap (λ (z : ℕ). bit_of (number 256 block) z) {x = w * i + j} {y = 8 * (n / 8) + n % 8} (omega arith)
    ∙ sym (digit-bit 8 (number 256 block) (n / 8) (n % 8) (omega arith))
    ∙ rw (pow-mul 2 8 (n / 8), digit-number 256 (n / 8) block bytes)

pub packed-bit : (w : ℕ) (codes : List ℕ) (s i j : ℕ) → Below (2 ^ w) codes → i < length codes → j < w
    → block_bit (packed w codes s) (i * w + j) ≡ bit_of (get_or codes i 0) j
packed-bit w codes s i j fit l h =
    sym (code-bit w (packed w codes s) i j (below-packed w codes s) h)
    ∙ rw (← get_or-unpacked w (length codes) (packed w codes s) i l, unpacked-packed w codes s fit)

-- ---- in groups: where m codes are n bytes, as 8 codes of w bits are w bytes, each group of n bytes holds its m codes by itself
pub group-code : (w m n : ℕ) (block : List ℕ) (j k : ℕ) → w * m ≡ 8 * n → k < m → Below 256 block
    → code_at w (take n (drop (n * j) block)) k ≡ code_at w block (m * j + k)
unfolding code_at
group-code w m n block j k e h bytes =
    let v = number 256 block in
    let below = below-drop 256 (n * j) block bytes in
    let room : w * k + w ≤ w * m = omega (arith, mul-le-mul_left w h) in
    let at : 8 * (n * j) + w * k ≡ w * (m * j + k) = omega (arith, ap (λ (z : ℕ). z * j) e) in
    rw (
      number-take 256 n (drop (n * j) block) below,
      number-drop 256 (n * j) block bytes,
      ← pow-mul 2 8 n,
      ← pow-mul 2 8 (n * j),
      ← e,
      cut (w * k) w (w * m) (v / 2 ^ (8 * (n * j))) room,
      div-pow-add 2 v (8 * (n * j)) (w * k),
      at,
    )
