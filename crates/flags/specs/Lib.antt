-- What must be believed of flags.
pub mod Flags
