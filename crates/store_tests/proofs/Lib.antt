pub mod Over
pub mod Taken
