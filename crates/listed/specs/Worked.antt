-- Worked by hand in document 01: "dim 1, seed 1, width 5, 3.0 added unkeyed .. `261 1 1 5 1` .., then `0 - 3B9A`".
use Rattle.std.specs.Prelude.{◌≡◌, refl, [], ◌∷◌}
use Rattle.std.specs.Float.Ieee.{size}
use Rattle.lists.specs.Lists.{joined}
use Rattle.lists.specs.Keep.{all}
use Rattle.padding.specs.Padded.{padded_dim, exponent}
use Rattle.codes.specs.Packing.{bytes_per_vector}
use Rattle.numerals.specs.Numerals.{numeral}
use Rattle.index.specs.State.{rooms, least}
use Rattle.index.specs.Form.{form_of}
use Rattle.index.specs.Step.{first_of}
use Rattle.index.specs.Read.{little_endian, header_in, head_fault, key_from, entries_in, read_refusal}
use Rattle.listed.specs.Listing.{room, listing_refusal, head_line, slot_line, half_in, listing_text}

worked :
    listing_text
    (0x56 ∷ 0x45 ∷ 0x43 ∷ 0x51 ∷ 0x05 ∷ 0x01 ∷ 0x00 ∷ 0x00 ∷ 0x01 ∷ 0x00 ∷ 0x00 ∷ 0x00 ∷ 0x01 ∷ 0x00 ∷ 0x00 ∷ 0x00 ∷ 0x00 ∷ 0x00 ∷ 0x00 ∷ 0x00
    ∷ 0x01 ∷ 0x00 ∷ 0x00 ∷ 0x00 ∷ 0x05 ∷ 0x9A ∷ 0x3B ∷ 0x08 ∷ 0x00 ∷ 0x00 ∷ 0x00 ∷ 0x00 ∷ [])
    ≡ 0x32 ∷ 0x36 ∷ 0x31 ∷ 0x20 ∷ 0x31 ∷ 0x20 ∷ 0x31 ∷ 0x20 ∷ 0x35 ∷ 0x20 ∷ 0x31 ∷ 0x0A ∷ 0x30 ∷ 0x20 ∷ 0x2D ∷ 0x20 ∷ 0x33 ∷ 0x42 ∷ 0x39 ∷ 0x41 ∷ 0x0A ∷ []
unfolding listing_text listing_refusal room head_line slot_line half_in numeral first_of little_endian form_of header_in head_fault read_refusal least rooms bytes_per_vector padded_dim exponent size all entries_in key_from joined
worked = refl
