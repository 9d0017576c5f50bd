-- Laws of the lists of specs/, for any type of entries.
pub mod Laws
pub mod Entries
pub mod Keep
pub mod Front
pub mod Ranges
pub mod Writing
pub mod Tests
pub mod Bits
pub mod Members
