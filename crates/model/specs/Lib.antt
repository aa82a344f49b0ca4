pub mod Challenge
pub mod Host
pub mod Judge
pub mod Sources
