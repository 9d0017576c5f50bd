-- What the contracts of this crate cite.
pub mod Root
pub mod Work
