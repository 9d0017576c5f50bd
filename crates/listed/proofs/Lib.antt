-- Laws of the text, and the theorems on it.
pub mod Room
pub mod Refusal
pub mod Fits
pub mod Cut
