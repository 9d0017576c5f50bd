-- Laws that the proofs of several functions of this crate, and of other crates, cite.
pub mod Near
pub mod NearestLaw
pub mod Rounding
pub mod Digits
pub mod Widen
pub mod Narrow
pub mod Exponent
pub mod Logic
