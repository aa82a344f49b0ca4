pub mod Shown
pub mod Layout
pub mod Prints
