-- Laws of the capacity.
pub mod Least
mod Rooms
