pub mod Words
pub mod Text
pub mod Statements
pub mod Lines
pub mod Once
