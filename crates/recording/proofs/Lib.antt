-- Laws of the file layer.
pub mod Tests
pub mod WellFormed
pub mod Acceptance
pub mod Guarantee
pub mod Reading
pub mod Longer
pub mod Answers
