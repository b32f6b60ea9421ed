-- What follows from the definitions. Demands is for the reader; the others are its ground, and what the finders cite.
pub mod Demands
pub mod Tests
pub mod Search
pub mod Histories
pub mod Stretches
pub mod Deeds
pub mod Positions
pub mod Walks
pub mod Early
pub mod Late
pub mod Plain
pub mod Words
pub mod Unused
pub mod Stale
