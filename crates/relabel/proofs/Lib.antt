-- Laws of relabelling.
mod Tests
mod Parts
mod Loops
mod Accepted
