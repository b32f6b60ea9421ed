-- Demand 3, proved of the two finders' statements.
pub mod Together
