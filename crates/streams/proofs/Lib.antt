-- Laws that the proofs of several functions cite, and those of the crates above.
pub mod Pieces
pub mod Telling
