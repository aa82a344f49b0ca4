pub mod Layout
pub mod Reports
pub mod Calls
pub mod Invariant
pub mod Placed
