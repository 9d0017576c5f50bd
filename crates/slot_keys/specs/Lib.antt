-- The key of a slot.
pub mod Has
