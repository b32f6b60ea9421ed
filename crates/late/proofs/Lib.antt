-- Laws of the late finder's steps, and why its tables show the recording.
pub mod Determined
pub mod Laws
pub mod Columns
pub mod Shown
pub mod Runs
pub mod Answers
