-- The byte form: document 01, "format.rs, byte form". "Little-endian: VECQ, version 16-bit, working_dim 16-bit (0 if it equals dim), dim 32, seed 64, live count 32; width byte
-- for 261; scales; codes; for 260 again scales and codes; key entry count 32, then slot 32, key 64 each, rising. Only live slots are written, numbered from 0 in slot order, in
-- the key entries too. Written: 259 at 4 bits, 260 residual, 261 at 5 and 6." Document 02, Req 06: "Files whose live slots all have year 1 are written as before. Others use a
-- version 3 above the old one (262, 263, 264), with one year per live slot, in slot order, after the key table."
use Rattle.std.specs.Prelude.{Bool, not, cond, List, [], ◌∷◌, ◌++◌, map, ℕ, suc, ◌+◌, length, eqb}
use Rattle.std.proofs.Math.Option.{Option, none, some}
use Rattle.digits.specs.Digits.{digits}
use Rattle.half.specs.Half.{narrowed}
use Rattle.encode.specs.declared.Header.{Header}
use Rattle.codes.specs.Stage.{Stage}
use Rattle.encode.specs.Coded.{Code}
use Rattle.lists.specs.Lists.{joined}
use Rattle.lists.specs.Keep.{all}
use Rattle.index.specs.Form.{form_of}

-- what of a live slot is written
pub record Entry : Type 0 where
  pub code : Code
  pub key : Option ℕ
  pub year : ℕ

-- a number in n bytes, lowest first
abbrev pub le_bytes : (n : ℕ) → ℕ → List ℕ
le_bytes n v = digits 256 n v

-- the bytes 56 45 43 51
abbrev pub magic : List ℕ
magic = 0x56 ∷ 0x45 ∷ 0x43 ∷ 0x51 ∷ []

-- the version of a file without years
abbrev pub plain_version : Header → ℕ
plain_version h = cond h.residual 260 (cond (eqb h.bits 4) 259 261)

-- "live slots all have year 1"
abbrev pub no_duty : List Entry → Bool
no_duty es = all (λ e. eqb e.year 1) es

-- "a version 3 above the old one" where some live slot has another year
abbrev pub version_with : Header → (dated : Bool) → ℕ
version_with h dated = plain_version h + cond dated 3 0

-- the version that an index with these entries is written as
unfoldable pub version_of : Header → List Entry → ℕ
version_of h es = version_with h (not (no_duty es))

abbrev pub width_byte : (version : ℕ) → Header → List ℕ
width_byte v h = cond (form_of v).width (h.bits ∷ []) []

-- the scales of stages, as halves, then their codes
abbrev pub stage_bytes : List Stage → List ℕ
stage_bytes gs = joined (map (λ g. le_bytes 2 (narrowed g.scale)) gs) ++ joined (map (λ g. g.block) gs)

unfoldable pub second_stages : List Entry → List Stage
second_stages [] = []
second_stages (e ∷ es) = elim e.code.second [ none ↦ second_stages es | some g ↦ g ∷ second_stages es ]

-- the key entries, the first slot of the list having the number i
unfoldable pub key_entries : ℕ → List Entry → List (List ℕ)
key_entries i [] = []
key_entries i (e ∷ es) = elim e.key [ none ↦ key_entries (suc i) es | some k ↦ (le_bytes 4 i ++ le_bytes 8 k) ∷ key_entries (suc i) es ]

-- "one year per live slot, in slot order", of 16 bits
abbrev pub year_bytes : (version : ℕ) → List Entry → List ℕ
year_bytes v es = cond (form_of v).years (joined (map (λ e. le_bytes 2 e.year) es)) []

-- the first 24 bytes, for n live slots
abbrev pub head_bytes : (version : ℕ) → Header → (n : ℕ) → List ℕ
head_bytes v h n =
    magic ++ le_bytes 2 v ++ le_bytes 2 (cond (eqb h.working_dim h.dim) 0 h.working_dim) ++ le_bytes 4 h.dim ++ le_bytes 8 h.seed ++ le_bytes 4 n

-- The blocks in their order. Where each begins: `Form`.
unfoldable pub file_of : Header → List Entry → List ℕ
file_of h es =
    head_bytes (version_of h es) h (length es) ++ width_byte (version_of h es) h
    ++ stage_bytes (map (λ e. e.code.first) es) ++ stage_bytes (second_stages es)
    ++ le_bytes 4 (length (key_entries 0 es)) ++ joined (key_entries 0 es)
    ++ year_bytes (version_of h es) es
