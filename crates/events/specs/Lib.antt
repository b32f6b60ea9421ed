-- What must be believed of a recording's events. Read the modules in this order.
pub mod Acts
pub mod Stretches
pub mod Clashes
pub mod Words
pub mod Search
pub mod Verdicts
pub mod Positions
pub mod Reports
pub mod Cases
