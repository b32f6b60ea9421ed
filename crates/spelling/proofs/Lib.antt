-- Laws of words, of the words that are left of a text, of rows that are filled, and of what they hold.
pub mod Spelling
pub mod Passing
pub mod Filling
pub mod Handing
