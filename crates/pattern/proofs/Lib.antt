-- Laws that proofs of this crate and of others cite.
pub mod Nan
pub mod Sums
