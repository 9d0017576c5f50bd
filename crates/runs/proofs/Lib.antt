-- Laws that the proofs of both functions cite.
mod Runs
