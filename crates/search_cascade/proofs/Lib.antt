-- Laws of the candidates, and of a cascade as a call.
pub mod Candidates
pub mod AllLive
mod Cascade
