-- Record and answers as words of 64 bits, and what the calls for C leave.
pub mod Words
pub mod Put
pub mod Exports
