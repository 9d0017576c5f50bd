-- What the contracts of this crate cite: how a field is read.
pub mod Reading
