-- Laws that the proofs of this crate and of others cite.
pub mod Squares
pub mod Nearest
pub mod Scale
pub mod Round
pub mod Cases
pub mod Floats
