-- What must be believed of the two finders together.
pub mod Together
