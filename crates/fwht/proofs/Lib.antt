-- Laws that the proofs of this crate's functions cite, and those of the crates above.
mod Columns
pub mod Passes
mod Turns
mod Walks
pub mod Spans
