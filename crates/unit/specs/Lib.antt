-- What the contracts of this and of other crates cite.
pub mod Brought
pub mod Unit
pub mod Calls
