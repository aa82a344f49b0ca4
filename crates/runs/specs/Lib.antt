pub mod State
pub mod Step
pub mod Law
pub mod Printed
pub mod Held
pub mod Tokens
pub mod Session
pub mod Built
