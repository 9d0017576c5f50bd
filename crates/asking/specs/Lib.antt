-- What a search tests before any score.
pub mod Faults
