-- Document 01, "Worked by hand", the examples marked M: what a rule gives, beside what the document says, as one table with one statement. Each row applies the very definition
-- that the contracts cite. A float stands as its binary32 pattern.
use Rattle.std.specs.Prelude.{Bool, true, false, ◌&&◌, List, [], ◌∷◌, map, ℕ, T, eqb}
use Rattle.std.specs.Float.{binary32}
use Rattle.std.specs.Float.Ieee.{size, add, sub, of_bits, to_bits, nan_bits}
use Rattle.half.specs.Half.{narrowed, widened}
use Rattle.sqrt.specs.Root.{root_bits, nearest_root, last_passing, root_reaches}
use Rattle.half.specs.Binary.{magnitude, near, kept}
use Rattle.signs.specs.Signs.{start, next_state, xor_left, xor_right, output, sign}
use Rattle.padding.specs.Padded.{is_power_of_two, exponent}
use Rattle.fwht.specs.Fwht.{fwht, pass, entry}
use Rattle.fwht.specs.Binary32.{fwht32}
use Rattle.codes.specs.Packing.{packed, bytes_per_vector}
use Rattle.score.specs.Order.{order_of_bits, ranked_bits, order_number}
use Rattle.choose.specs.Choose.{stay, choose}
use Rattle.choose_slots.specs.Slots.{taking_part, listed}

pub record Example : Type 0 where
  pub gives : List ℕ
  pub says : List ℕ

unfoldable pub same : List ℕ → List ℕ → Bool
same [] [] = true
same [] (y ∷ ys) = false
same (x ∷ xs) [] = false
same (x ∷ xs) (y ∷ ys) = eqb x y && same xs ys

-- every row gives what the document says
unfoldable pub agree : List Example → Bool
agree [] = true
agree (r ∷ rs) = same r.gives r.says && agree rs

-- the order numbers of the scores with these patterns
abbrev pub orders : List ℕ → List ℕ
orders scores = map order_number (map (of_bits binary32) scores)

unfoldable pub examples : List Example
examples =
    -- seed 1: first output 0x47E4CE4B896CDD1D, sign -1
    record { gives = output (next_state (start 1)) ∷ to_bits binary32 (sign (output (next_state (start 1)))) ∷ []; says = 0x47E4_CE4B_896C_DD1D ∷ 0xBF80_0000 ∷ [] }
    -- fwht of 1,2,3,4: 10,-2,-4,0
    ∷ record {
      gives = map (to_bits binary32) (fwht32 (map (of_bits binary32) (0x3F80_0000 ∷ 0x4000_0000 ∷ 0x4040_0000 ∷ 0x4080_0000 ∷ [])));
      says = 0x4120_0000 ∷ 0xC000_0000 ∷ 0xC080_0000 ∷ 0 ∷ [];
    }
    -- 6 bits, codes 1,2,3,4: 81 30 10; 5 bits, codes 31,1: 3F 00
    ∷ record { gives = packed 6 (1 ∷ 2 ∷ 3 ∷ 4 ∷ []) 0; says = 0x81 ∷ 0x30 ∷ 0x10 ∷ [] }
    ∷ record { gives = packed 5 (31 ∷ 1 ∷ []) 0; says = 0x3F ∷ 0 ∷ [] }
    -- halves: 1 is 0x3C00; 65504 is 0x7BFF; 65520 is 0x7C00; 2^-25 is 0; 0x0001 reads 2^-24
    ∷ record {
      gives = map narrowed (0x3F80_0000 ∷ 0x477F_E000 ∷ 0x477F_F000 ∷ 0x3300_0000 ∷ []);
      says = 0x3C00 ∷ 0x7BFF ∷ 0x7C00 ∷ 0 ∷ [];
    }
    ∷ record { gives = widened 1 ∷ []; says = 0x3380_0000 ∷ [] }
    -- order numbers: +0 0x80000000, -0 0x80000000 (document 02, Req 04)
    ∷ record { gives = orders (0 ∷ 0x8000_0000 ∷ []); says = 0x8000_0000 ∷ 0x8000_0000 ∷ [] }
    -- scores 1,1,2 with k 2: slots 2,1; scores 2,1,1: 0,1
    ∷ record { gives = listed (orders (0x3F80_0000 ∷ 0x3F80_0000 ∷ 0x4000_0000 ∷ [])) 2; says = 2 ∷ 1 ∷ [] }
    ∷ record { gives = listed (orders (0x4000_0000 ∷ 0x3F80_0000 ∷ 0x3F80_0000 ∷ [])) 2; says = 0 ∷ 1 ∷ [] }
    -- root of 0.25 is 0.5
    ∷ record { gives = root_bits 0x3E80_0000 ∷ []; says = 0x3F00_0000 ∷ [] }
    ∷ []

pub worked : T (agree examples)
unfolding examples agree same narrowed widened magnitude near kept root_bits nearest_root last_passing root_reaches start next_state xor_left xor_right output sign is_power_of_two exponent fwht pass entry packed bytes_per_vector order_of_bits ranked_bits stay choose taking_part listed size add sub of_bits to_bits nan_bits
worked = tt
