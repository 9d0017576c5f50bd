-- Laws over the base, for other crates to cite.
pub mod Places
pub mod Below
pub mod Number
pub mod Digits
pub mod Bytes
