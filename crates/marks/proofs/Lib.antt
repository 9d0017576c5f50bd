-- Laws of marks in words.
pub mod Words
