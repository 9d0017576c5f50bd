-- Laws that the proofs of this crate's functions cite, and those of the crates above.
mod Written
pub mod Applied
