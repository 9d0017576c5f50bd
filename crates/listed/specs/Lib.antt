-- What is listed of a file.
pub mod Listing
pub mod Whole
mod Worked
