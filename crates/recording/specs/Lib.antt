-- What must be believed of a recording file, in reading order. Parts is only for the crate's own functions.
pub mod Refusals
pub mod Tests
pub mod File
pub mod WellFormed
pub mod Parts
