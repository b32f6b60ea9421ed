-- What must be believed of the notation: what a text says, and what reading it leaves in lent rows.
pub mod Notation
pub mod Passes
pub mod Example
