-- Laws of flags, and of the search for the first one.
pub mod Flags
pub mod Search
