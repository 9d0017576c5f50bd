-- What a compaction does to each lent array.
pub mod Gathered
