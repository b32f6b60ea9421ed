-- What must be believed of the late finder, in reading order. Finds is the statement; the others are the ground of the code.
pub mod Finds
pub mod Steps
pub mod Runs
