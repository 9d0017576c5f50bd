-- Laws of compaction.
mod Gathering
pub mod Rising
mod Kept
mod Arrays
