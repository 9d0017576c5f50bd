-- The old reading of version 1, and what its files become.
pub mod Old
pub mod Scales
pub mod Converted
pub mod Stream
