-- Laws of text in a buffer, and of the lines made of it.
pub mod Text
pub mod Lines
