pub mod Counting
pub mod Numbered
pub mod Options
pub mod Sets
