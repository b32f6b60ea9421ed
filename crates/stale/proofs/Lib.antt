-- What the functions of the search for stale reads rest on.
pub mod Laws
