-- Laws that every search's proof cites.
pub mod Faults
pub mod Cells
pub mod Live
pub mod Answers
pub mod Searched
