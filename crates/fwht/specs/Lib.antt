-- What the contracts of this and of other crates cite.
pub mod Fwht
pub mod InPlace
pub mod Binary32
