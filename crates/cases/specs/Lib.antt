pub mod Words
pub mod Spelling
pub mod Valid
pub mod Reading
