-- What must be believed of the sorts of number.
pub mod Words
