-- Laws that the proofs of several functions cite.
mod Digits
mod Runs
pub mod RoundTrip
