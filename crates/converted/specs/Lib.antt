-- What is read of a converted file.
pub mod Reading
