-- How the codes of one vector lie in its block of bytes (document 01, store.rs), at any width w.
-- A block is one number, written to the base 256. Its codes are that number's digits to the base 2 ^ w, and the spare bits are what stands above them.
--
--   6 bits, codes 1, 2, 3, 4     000100 000011 000010 000001     the number, its highest bit first
--   bytes 81 30 10               00010000 00110000 10000001
use Rattle.std.specs.Prelude.{List, ℕ, ◌+◌, ◌-◌, ◌*◌, ◌/◌, ◌%◌, ◌^◌, length, get_or}
use Rattle.digits.specs.Digits.{number, digits, bit_of}

-- "Bytes per vector: padded times width, over 8, rounded up."
unfoldable pub bytes_per_vector : ℕ → ℕ → ℕ
bytes_per_vector w p = (p * w + 7) / 8

-- "Codes are packed from the lowest bit": code i is the w bits from bit w * i on. Past the block's end it is 0.
unfoldable pub code_at : ℕ → List ℕ → ℕ → ℕ
code_at w block i = number 256 block / 2 ^ (w * i) % 2 ^ w

-- The p codes of a block.
unfoldable pub unpacked : ℕ → ℕ → List ℕ → List ℕ
unpacked w p block = digits (2 ^ w) p (number 256 block)

-- The spare bits of a block of p codes, as a number.
unfoldable pub spare : ℕ → ℕ → List ℕ → ℕ
spare w p block = number 256 block / 2 ^ (w * p)

-- How many bits that is.
unfoldable pub spare_width : ℕ → ℕ → ℕ
spare_width w p = 8 * bytes_per_vector w p - w * p

-- The block that has these codes and these spare bits.
unfoldable pub packed : ℕ → List ℕ → ℕ → List ℕ
packed w codes spares = digits 256 (bytes_per_vector w (length codes)) (number (2 ^ w) codes + 2 ^ (w * length codes) * spares)

-- The same layout by single bits, for the law `code-bit`: bit n of a block, which is bit n modulo 8 of byte n / 8.
abbrev pub block_bit : List ℕ → ℕ → ℕ
block_bit block n = bit_of (get_or block (n / 8) 0) (n % 8)
