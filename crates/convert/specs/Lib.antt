-- What the program leaves.
pub mod Told
