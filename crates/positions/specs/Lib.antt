-- What the contracts of this crate cite.
pub mod Positions
pub mod Decides
pub mod Ordered
pub mod Tree
pub mod Lent
