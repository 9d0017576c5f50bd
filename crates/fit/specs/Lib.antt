-- What 13's test means, clause by clause, and what it asks of words of marks.
pub mod Fits
pub mod Ones
pub mod Tested
pub mod Word
