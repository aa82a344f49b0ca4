pub mod Hosts
pub mod Reports
pub mod Cases
