-- What writing one slot does, and which slot is written.
pub mod Place
pub mod Adding
