-- What naming listed hits does.
pub mod Named
