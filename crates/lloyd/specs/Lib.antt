-- What the contracts of this crate cite.
pub mod Decimal
pub mod Tables
pub mod Quantizer
pub mod Sound
