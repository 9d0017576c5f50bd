-- The shortlist.
pub mod Shortlist
