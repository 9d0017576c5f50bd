-- Laws of refusal 13's test.
pub mod Rooms
pub mod Ones
mod Marks
pub mod Meaning
