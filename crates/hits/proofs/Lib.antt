-- Laws of the list of hits.
pub mod Entering
mod Scored
pub mod Choosing
mod Query
mod Writing
mod Answer
