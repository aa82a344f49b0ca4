pub mod Findings
pub mod Reports
pub mod Gathering
pub mod Sources
pub mod Orders
pub mod Nodes
