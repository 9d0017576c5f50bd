-- Laws of little-endian numbers.
mod Numbers
