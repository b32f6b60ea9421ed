-- What must be believed of the search for stale reads.
pub mod Stale
