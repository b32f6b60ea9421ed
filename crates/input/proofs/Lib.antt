-- What a read adds to what was read before it.
pub mod Reading
