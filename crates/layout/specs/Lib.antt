-- The counts that fix the length of a file.
pub mod Counts
