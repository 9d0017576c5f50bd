-- Laws that proofs of other crates cite.
pub mod Lanes
pub mod Products
pub mod Slot
pub mod OneTrait
pub mod Order
