-- Laws of writing.
mod Putting
mod Pieces
mod Calls
