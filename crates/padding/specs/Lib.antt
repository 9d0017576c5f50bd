-- What the contracts of this and of other crates cite.
pub mod Padded
pub mod Rotatable
