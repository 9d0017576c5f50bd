-- What the contracts of this crate cite.
pub mod Packing
pub mod Writing
pub mod Slots
pub mod Stage
