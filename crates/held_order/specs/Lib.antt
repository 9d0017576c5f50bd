-- Rising held order.
pub mod Restored
pub mod Placed
