-- Laws of reading.
mod Limits
mod Faults
mod Stages
mod Once
mod Keys
mod Years
mod Filled
mod Call
