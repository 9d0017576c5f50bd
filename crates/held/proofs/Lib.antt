-- Laws of scanning, and of what it finds on a record and arrays that fit.
pub mod Scan
pub mod Live
pub mod Value
