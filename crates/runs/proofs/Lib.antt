pub mod Chains
pub mod Handles
pub mod Keeping
pub mod Rows
pub mod Standing
pub mod Readings
pub mod Runs
pub mod Kept
