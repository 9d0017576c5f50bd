-- The one table of worked examples.
pub mod Rows
