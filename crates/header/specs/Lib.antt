-- What the head of a file states.
pub mod Head
