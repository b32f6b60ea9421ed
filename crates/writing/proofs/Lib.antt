-- Laws of rows, of the bytes made of them, and of reading and writing one after the other.
pub mod RowTests
pub mod Bytes
pub mod Writing
pub mod Contents
pub mod Listed
pub mod ReadBack
pub mod WriteBack
