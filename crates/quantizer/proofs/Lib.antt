-- Laws of many values coded one after the other.
mod Summing
