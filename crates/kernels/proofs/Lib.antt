-- Laws that the proofs of this crate cite.
mod Fits
mod Bytes
mod Wide
