-- Laws of words written over lent slices.
pub mod Verdicts
mod Places
