-- Digits, and entries by falling digit.
pub mod Digits
