-- What must be believed of the early finder, in reading order. Finds is the statement; Steps and Runs are the ground of the code.
pub mod Finds
pub mod Steps
pub mod Runs
