pub mod Lists
pub mod Keeping
