-- Laws that the proofs of this crate's functions cite, and those of the crate above.
pub mod Places
