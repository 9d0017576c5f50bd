-- Laws of calls that change marks.
pub mod Replaced
pub mod Marked
