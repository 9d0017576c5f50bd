-- Laws of rising held order.
pub mod Writing
mod Positions
