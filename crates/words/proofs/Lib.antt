-- Laws of records and answers as words.
pub mod Records
pub mod Words
pub mod Exports
