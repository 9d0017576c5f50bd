-- What calls that change marks leave.
pub mod Replaced
pub mod Live
