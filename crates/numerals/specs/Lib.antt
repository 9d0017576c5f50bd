-- What the contracts of this crate cite: how numbers are printed.
pub mod Numerals
