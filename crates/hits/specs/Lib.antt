-- The list of hits among marked slots, and the words of the steps on the way.
pub mod Hits
pub mod Steps
