pub mod Plans
pub mod Causes
