-- What the choice of slots writes, and the words of the steps on the way.
pub mod Slots
pub mod Steps
