pub mod Steps
pub mod Runs
pub mod Working
