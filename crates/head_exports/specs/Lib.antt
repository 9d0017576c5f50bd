-- What a file's head states, as words of 64 bits.
pub mod Head
