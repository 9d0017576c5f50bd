-- What the contracts of this and of other crates cite.
pub mod Lanes
pub mod Score
pub mod OneTrait
pub mod Order
