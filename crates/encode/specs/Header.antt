-- What fixes how a vector is coded, and stays while slots are in use: the struct `Header`.
use Rattle.std.specs.Prelude.{ℕ}
use Rattle.padding.specs.Padded.{padded_dim}
use Rattle.codes.specs.Packing.{bytes_per_vector}
pub use Rattle.encode.specs.declared.Header.{Header}

-- how many entries the rotated vector has, and how many codes
abbrev pub padded : Header → ℕ
padded h = padded_dim h.working_dim

-- 01, store.rs: "Bytes per vector"
abbrev pub block_size : Header → ℕ
block_size h = bytes_per_vector h.bits (padded h)
