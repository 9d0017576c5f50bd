-- What reading and packing give and leave behind, also where the layout says nothing: at a width that no code has, for a code that is too large,
-- in a block of another size.
use Rattle.std.specs.Prelude.{◌≡◌, List, Bool, ◌&&◌, cond, ℕ, ◌^◌, ◌<◌, ◌≤◌, ltb, leb, eqb, length}
use Rattle.digits.specs.Digits.{Below, digits_below}
use Rattle.codes.specs.Packing.{bytes_per_vector, spare, packed}

-- A code is 1 to 8 bits wide.
unfoldable pub is_width : ℕ → Bool
is_width w = ltb 0 w && leb w 8

-- Counts and codes at any other width are 0.
unfoldable pub at_width : ℕ → ℕ → ℕ
at_width w x = cond (is_width w) x 0

-- These are codes of this width, and a block of so many bytes is theirs.
unfoldable pub packable : ℕ → List ℕ → ℕ → Bool
packable w codes bytes = is_width w && (eqb bytes (bytes_per_vector w (length codes)) && digits_below (2 ^ w) codes)

-- Both tests as facts.
pub record Width (w : ℕ) : Type 0 where
  pub some : 0 < w
  pub most : w ≤ 8

pub record Packable (w : ℕ) (codes : List ℕ) (bytes : ℕ) : Type 0 where
  pub width : Width w
  pub size : bytes ≡ bytes_per_vector w (length codes)
  pub fit : Below (2 ^ w) codes

-- The block after a vector's codes were written over it, with these spare bits.
unfoldable pub repacked : ℕ → List ℕ → ℕ → List ℕ → List ℕ
repacked w codes spares block = cond (packable w codes (length block)) (packed w codes spares) block

-- "Spare bits are 0 after an append; an overwrite keeps them": those of a block of p codes.
unfoldable pub spare_after : (fresh : Bool) → (w p : ℕ) → (block : List ℕ) → ℕ
spare_after fresh w p block = cond fresh 0 (spare w p block)
