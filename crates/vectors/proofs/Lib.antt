-- Laws that the proofs of this crate's functions cite, and those of the crates above.
pub mod Sums
pub mod Filling
pub mod FloatTests
pub mod Faults
