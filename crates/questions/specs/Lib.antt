pub mod Answers
pub mod Never
pub mod Noted
