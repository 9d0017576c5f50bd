-- Laws of removal.
mod Parts
mod Only
mod Loops
mod Accepted
