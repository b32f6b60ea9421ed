-- Laws of the sorts of number, and of counting.
pub mod Words
pub mod Counting
