pub mod Errors
pub mod Children
pub mod Kept
pub mod Iter
