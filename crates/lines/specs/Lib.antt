-- What must be believed of the printed lines, in reading order. Lines is the statement, Example holds it to the printed example.
pub mod Text
pub mod Lines
pub mod Example
