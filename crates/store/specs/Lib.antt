pub mod Accepted
pub mod Calls
pub mod Chains
pub mod Raises
pub mod Reached
pub mod Roots
pub mod Store
pub mod Token
