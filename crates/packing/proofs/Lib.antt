-- Laws of codes packed eight by eight, of those left over, and of the spare bits.
mod Eights
mod Rest
mod Spare
