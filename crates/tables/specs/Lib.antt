-- What must be believed of the lent tables, in reading order.
pub mod Lent
pub mod Answers
pub mod Steps
pub mod Finds
