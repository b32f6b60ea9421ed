-- Laws of the early finder's steps, why its tables show the recording, and demand 2 said of it.
pub mod Demand
pub mod Determined
pub mod Laws
pub mod Shown
pub mod Runs
pub mod Answers
