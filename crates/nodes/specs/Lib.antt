pub mod Rows
pub mod Breadth
pub mod Nodes
pub mod Flattening
pub mod Begins
pub mod Queue
pub mod Check
pub mod Notes
