-- What contracts and laws of other crates cite.
pub mod Digits
