-- Laws of distances, of the candidates, and of the program's steps.
mod Lanes
mod Pairs
pub mod Distance
pub mod Counting
pub mod Nearest
mod Lent
mod Groups
mod Marking
