pub mod Judging
pub mod Causes
