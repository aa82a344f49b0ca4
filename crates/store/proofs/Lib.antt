pub mod Rows
pub mod Clients
pub mod Chains
pub mod Trees
pub mod Accepted
pub mod Reached
