-- What reading takes from a file before it writes, and what key entries give.
pub mod Parts
pub mod Table
