pub mod Addition
pub mod Entries
pub mod EntryKinds
pub mod EntryLaws
pub mod Layer
pub mod LayerLaws
pub mod LayerHost
