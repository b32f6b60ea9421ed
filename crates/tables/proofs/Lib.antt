-- Laws of lent tables, of tables that show a history, and of a finder's way through a file: the finders cite them.
pub mod Determined
pub mod Lent
pub mod Laws
pub mod Shown
pub mod Files
pub mod Runs
