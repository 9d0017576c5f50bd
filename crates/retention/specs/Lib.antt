-- Which slots must stay, by the lent arrays.
pub mod Stays
