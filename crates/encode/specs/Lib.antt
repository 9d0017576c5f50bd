-- What the contracts of this and of other crates cite.
pub mod Header
pub mod Coding
pub mod Encode
pub mod Coded
pub mod Calls
