-- What the contracts of this crate cite.
pub mod Streams
