-- Laws of sorted slots.
pub mod Sorted
