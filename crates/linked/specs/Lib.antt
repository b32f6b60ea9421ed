-- What must be believed of the linked functions.
pub mod Rows
