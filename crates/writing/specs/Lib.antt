-- What must be believed of the writer. Parts is only for the crate's own functions.
pub mod Writing
pub mod Parts
