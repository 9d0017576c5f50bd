-- Live marks in words of 64.
pub mod Live
pub mod Word
