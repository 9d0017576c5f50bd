-- Laws of slots that must stay.
pub mod Stays
