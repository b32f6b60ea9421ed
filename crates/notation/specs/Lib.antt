-- What must be believed of the program beside what a text says.
pub mod Program
