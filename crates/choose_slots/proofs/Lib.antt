-- Laws of the list that the call writes, and of the program's steps.
pub mod Listed
mod Counting
mod Gathering
mod Listing
