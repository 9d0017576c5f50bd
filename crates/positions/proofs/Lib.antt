-- Laws of yes and no, of positions by row and by slot number, of the pass that shows them to be in order, and of the tree.
pub mod Tests
pub mod Decides
mod Order
pub mod Consecutive
pub mod Slots
mod Rising
mod Walks
