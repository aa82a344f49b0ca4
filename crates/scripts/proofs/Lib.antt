pub mod Putting
pub mod Nodes
pub mod Printing
pub mod Reports
pub mod Whole
