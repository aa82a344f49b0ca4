pub mod Linked
pub mod Linking
