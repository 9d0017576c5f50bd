-- What sorting slots gives.
pub mod Sort
