pub mod Ledger
pub mod Causes
