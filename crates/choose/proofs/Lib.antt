-- Laws of the choice of slots, and of the lists that it is said with.
pub mod Falling
pub mod Staying
pub mod Choice
pub mod Ties
