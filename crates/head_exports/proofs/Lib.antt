-- Laws of what is answered of a head.
mod Head
