-- Laws of the layout: the length of any file by its counts, the counts of the slots in use, and the numbers that occur.
pub mod Length
pub mod Counting
pub mod Numbers
pub mod Words
