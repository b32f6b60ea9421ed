-- Laws of rows of bytes.
pub mod Buffer
pub mod Characters
