pub mod Beside
pub mod JoinFirst
pub mod Adopt
pub mod Append
pub mod Turns
pub mod Entries
pub mod Building
