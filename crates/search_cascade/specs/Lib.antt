-- What a cascade tests before any score.
pub mod Cascade
