pub mod Kept
pub mod Lines
pub mod Runs
pub mod Forks
pub mod Heads
