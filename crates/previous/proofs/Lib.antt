-- Laws of previous places.
pub mod Previous
mod Sorting
mod Loops
