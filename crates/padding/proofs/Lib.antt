-- Laws that the proofs of this crate and of others cite.
pub mod Powers
