-- What the contracts of this crate cite: how runs of numbers are printed.
pub mod Runs
