-- Laws of the shortlist, and of the program's steps.
mod Among
mod Shortening
mod Places
