-- What the contracts of this crate cite: formats, rounding to nearest, and the two conversions.
pub mod Binary
pub mod Nearest
pub mod Half
