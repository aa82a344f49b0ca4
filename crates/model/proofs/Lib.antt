pub mod Judge
pub mod Sources
pub mod Steps
