-- Laws of the call `score`.
pub mod Query
pub mod Slot
mod Answer
