-- A coded vector has blocks of the header's size.
use mathlib.Core.Path.{◌≡◌, refl, ap, ◌∙◌}
use mathlib.Core.Bool.{Bool, true, false, cond}
use mathlib.Core.List.{List}
use mathlib.Core.Option.{none, some}
use Prim.Native.Nat.{ℕ}
use lib.ListN.{length}
use lib.Ieee.{Float}
use Rattle.codes.specs.Packing.{bytes_per_vector}
use Rattle.codes.proofs.Packing.{length-packed}
use Rattle.rhdh.proofs.Applied.{rotated-length}
use Rattle.encode.specs.declared.Header.{Header}
use Rattle.encode.specs.Header.{padded, block_size}
use Rattle.unit.specs.Brought.{Item}
use Rattle.unit.specs.Unit.{rotated_by}
use Rattle.encode.specs.Coding.{Table, Coding, codes_of, dequantized, plain, packed_stage}
use Rattle.encode.specs.Encode.{Codings, scaled, rest, residual}
use Rattle.encode.proofs.OneStage.{length-coded, length-dequantized}
use Rattle.encode.proofs.Residual.{length-scaled}
use Rattle.encode.specs.Coded as Coded
use Rattle.encode.specs.Coded.{Code, Spare, rotated_of}
use Rattle.index.specs.Codec.{encoded, table_of}
use Rattle.index.specs.Sound.{block_length, Shaped}

-- what is coded again has as many entries
length_rest : (t : Table) (xs : List Float) → length (scaled (rest t xs)) ≡ length xs
unfolding rest
length_rest t xs = length-scaled xs (dequantized t xs) (length-dequantized t xs)

module _ (h : Header) where
  stored-size : (above : ℕ) (g : Coding) → length g.codes ≡ padded h → length (packed_stage h.bits above g).block ≡ block_size h
  stored-size above g e = length-packed h.bits g.codes above ∙ ap (bytes_per_vector h.bits) e

  length-rotated_of : (v : List Float) → length (rotated_of h v) ≡ padded h
  unfolding rotated_by
  length-rotated_of v = rotated-length (padded h) h.seed _

  module _ (above : Spare) (v : Item) where
    abbrev xs : List Float
    xs = rotated_of h v.vector

    abbrev both : Codings
    both = residual (table_of h) xs

    first-size : length (codes_of (table_of h) xs) ≡ padded h
    first-size = length-coded (table_of h).boundaries xs ∙ length-rotated_of v.vector

    second-size : length (codes_of (table_of h) (scaled (rest (table_of h) xs))) ≡ padded h
    second-size = length-coded (table_of h).boundaries (scaled (rest (table_of h) xs)) ∙ length_rest (table_of h) xs ∙ length-rotated_of v.vector

    abbrev code_if : Bool → Code
    code_if b =
        cond b
        (record { first = packed_stage h.bits above.first both.first; second = some (packed_stage h.bits above.second both.second) })
        (record { first = packed_stage h.bits above.first (plain (table_of h) xs); second = none })

    code-size : (b : Bool) → (length (code_if b).first.block ≡ block_size h) × (block_length (code_if b).second ≡ cond b (some (block_size h)) none)
    unfolding plain residual
    code-size true = (stored-size above.first both.first first-size, ap some (stored-size above.second both.second second-size))
    code-size false = (stored-size above.first (plain (table_of h) xs) first-size, refl)

    pub encoded-shaped : Shaped h (encoded h above v)
    unfolding Coded.encoded_by_table
    encoded-shaped = record { first = (code-size h.residual).0; second = (code-size h.residual).1 }
