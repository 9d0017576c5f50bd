-- The keyed list of listed slots.
pub mod Distinct
pub mod Places
