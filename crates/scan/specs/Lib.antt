-- What the contracts of this crate cite; those of other crates cite Scan alone.
pub mod Scan
pub mod Pairs
pub mod Groups
pub mod Stages
