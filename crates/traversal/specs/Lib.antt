pub mod Put
pub mod Start
pub mod Order
pub mod Walk
pub mod Spread
pub mod Survey
pub mod Report
