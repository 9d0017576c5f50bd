-- The previous place with the same key.
pub mod Previous
pub mod Sorting
