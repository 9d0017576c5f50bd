-- Laws that other crates may cite: of the layout (Packing), of the definitions that contracts cite (Tests, Slots).
pub mod Packing
pub mod Tests
pub mod Slots
mod Index
mod TwoBytes
