-- What the contracts of this and of other crates cite.
pub mod Distances
pub mod Lanes
pub mod Pairs
pub mod Nearest
pub mod Limit
