-- Laws of sorting by one digit, and by one digit after another.
pub mod Passes
mod Radix
