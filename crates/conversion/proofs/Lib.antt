-- Laws of the converter.
pub mod Scales
pub mod Head
pub mod Chunks
mod Narrowing
mod Passing
pub mod Streaming
