-- What the contracts of this crate cite: how a line is taken apart.
pub mod Fields
