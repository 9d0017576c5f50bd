-- Laws of reading and writing together.
pub mod Agree
pub mod Fields
mod Halves
mod Stages
mod Keys
pub mod Back
pub mod Plain
pub mod Again
pub mod Compacted
pub mod Calls
pub mod Stored
