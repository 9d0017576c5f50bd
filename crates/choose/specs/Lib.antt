-- The choice of slots, and the lists that it is said with.
pub mod Falling
pub mod Choose
