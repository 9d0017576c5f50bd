-- Which of the first slots hold a key.
pub mod Held
