-- The theorem on histories, and that on two houses, as statements.
pub mod Histories
pub mod Houses
