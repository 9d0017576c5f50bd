pub mod Order
pub mod Sound
pub mod Widths
pub mod Quantized
pub mod Decoded
pub mod Places
