-- Laws of one slot written, and that the adding calls write it.
mod Codes
mod Calls
mod Blocks
mod Append
mod Overwrite
mod Keyed
