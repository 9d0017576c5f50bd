-- Laws that the proofs of this crate's functions cite, and those of the crates above.
mod Filling
mod Sums
mod FloatTests
pub mod OneStage
pub mod Residual
mod Whole
pub mod Fit
