-- What reading gives back of what was written.
pub mod Back
pub mod Plain
pub mod Stored
